-- All of this belongs to what the program promises (docs/promise.txt).
-- How instructions and fork tables are listed, a line for each. The contract of the listing promises it, and the
-- command that prints code by it.
use Rattle.std.specs.Prelude.{ℕ, suc, ℤ, pos, List, [], ◌∷◌, ◌++◌, codes, decimal}
use Rattle.std.specs.List.{flat_map}
use Rattle.std.specs.Fmt.{signed_decimal}
use Rattle.sp_code.specs.declared.instr.Instr.{Instr}
use Rattle.sp_code.specs.declared.instr.Instr.TheVariants as i
use Rattle.sp_code.specs.declared.code.ChildTable.{ChildTable}
use Rattle.sp_code.specs.declared.code.ForkTable.{ForkTable}
use Rattle.sp_code.specs.declared.code.Parts.{Parts}

-- what an instruction is called, and the numbers that are printed after it
abbrev pub word_with_operands : Instr → List ℕ × List ℤ
word_with_operands (i.Const v) = (codes "const", v ∷ [])
word_with_operands (i.Addr up var) = (codes "addr", pos up ∷ pos var ∷ [])
word_with_operands (i.Deref up var) = (codes "deref", pos up ∷ pos var ∷ [])
word_with_operands (i.Index low high size) = (codes "index", low ∷ high ∷ pos size ∷ [])
word_with_operands (i.Field n) = (codes "field", pos n ∷ [])
word_with_operands i.Load = (codes "load", [])
word_with_operands i.Loadc = (codes "loadc", [])
word_with_operands i.Store = (codes "store", [])
word_with_operands (i.Copy n) = (codes "copy", pos n ∷ [])
word_with_operands i.Add = (codes "add", [])
word_with_operands i.Sub = (codes "sub", [])
word_with_operands i.Mul = (codes "mul", [])
word_with_operands i.Div = (codes "div", [])
word_with_operands i.Mod = (codes "mod", [])
word_with_operands i.Neg = (codes "neg", [])
word_with_operands i.Abs = (codes "abs", [])
word_with_operands i.Sqr = (codes "sqr", [])
word_with_operands i.Odd = (codes "odd", [])
word_with_operands i.And = (codes "and", [])
word_with_operands i.Or = (codes "or", [])
word_with_operands i.Not = (codes "not", [])
word_with_operands i.Eq = (codes "eq", [])
word_with_operands i.Ne = (codes "ne", [])
word_with_operands i.Lt = (codes "lt", [])
word_with_operands i.Le = (codes "le", [])
word_with_operands i.Gt = (codes "gt", [])
word_with_operands i.Ge = (codes "ge", [])
word_with_operands (i.Range low high) = (codes "range", low ∷ high ∷ [])
word_with_operands (i.Succ high) = (codes "succ", high ∷ [])
word_with_operands (i.Pred low) = (codes "pred", low ∷ [])
word_with_operands (i.Jump to) = (codes "jump", pos to ∷ [])
word_with_operands (i.Jumpf to) = (codes "jumpf", pos to ∷ [])
word_with_operands (i.Casej value to) = (codes "casej", value ∷ pos to ∷ [])
word_with_operands i.Nocase = (codes "nocase", [])
word_with_operands i.Tick = (codes "tick", [])
word_with_operands i.Assume = (codes "assume", [])
word_with_operands (i.Forup var to) = (codes "forup", pos var ∷ pos to ∷ [])
word_with_operands (i.Fordown var to) = (codes "fordown", pos var ∷ pos to ∷ [])
word_with_operands (i.Nextup var to) = (codes "nextup", pos var ∷ pos to ∷ [])
word_with_operands (i.Nextdown var to) = (codes "nextdown", pos var ∷ pos to ∷ [])
word_with_operands (i.Call block up) = (codes "call", pos block ∷ pos up ∷ [])
word_with_operands i.Return = (codes "return", [])
word_with_operands i.ReadInt = (codes "read int", [])
word_with_operands i.ReadChar = (codes "read char", [])
word_with_operands i.Readln = (codes "readln", [])
word_with_operands i.Eof = (codes "eof", [])
word_with_operands i.Eoln = (codes "eoln", [])
word_with_operands i.WriteInt = (codes "write int", [])
word_with_operands i.WriteChar = (codes "write char", [])
word_with_operands i.WriteBool = (codes "write bool", [])
word_with_operands (i.WriteText n) = (codes "write text", pos n ∷ [])
word_with_operands i.WritewInt = (codes "writew int", [])
word_with_operands i.WritewChar = (codes "writew char", [])
word_with_operands i.WritewBool = (codes "writew bool", [])
word_with_operands (i.WritewText n) = (codes "writew text", pos n ∷ [])
word_with_operands i.Writeln = (codes "writeln", [])
word_with_operands (i.Pack n) = (codes "pack", pos n ∷ [])
word_with_operands i.Open = (codes "open", [])
word_with_operands (i.Send message) = (codes "send", pos message ∷ [])
word_with_operands (i.Receive message) = (codes "receive", pos message ∷ [])
word_with_operands (i.Fork table) = (codes "fork", pos table ∷ [])
word_with_operands (i.Forall table) = (codes "forall", pos table ∷ [])
word_with_operands i.End = (codes "end", [])

abbrev pub word : Instr → List ℕ
word x = (word_with_operands x).0

abbrev pub operands : Instr → List ℤ
operands x = (word_with_operands x).1

-- numbers, each after a space
abbrev pub operand_text : ℤ → List ℕ
operand_text n = codes " " ++ signed_decimal n

abbrev pub number_text : ℕ → List ℕ
number_text n = codes " " ++ decimal n

abbrev pub instr_text : Instr → List ℕ
instr_text x = word x ++ flat_map operand_text (operands x)

-- the texts of items with their numbers, from n on
abbrev pub numbered_texts : {X : Type 0} → (ℕ → X → List ℕ) → ℕ → List X → List ℕ
numbered_texts text n [] = []
numbered_texts text n (x ∷ xs) = text n x ++ numbered_texts text (suc n) xs

-- an instruction after its number, as `3 addr 0 2`
abbrev pub instr_line : ℕ → Instr → List ℕ
instr_line n x = decimal n ++ codes " " ++ instr_text x ++ codes "\n"

-- what child k of fork table t begins with, as `table 0 child 1 entry 7 moves 2 shares 3 4`
abbrev pub child_line : ℕ → ℕ → ChildTable → List ℕ
child_line t k c =
    codes "table " ++ decimal t ++ codes " child " ++ decimal k ++ codes " entry " ++ decimal c.entry
    ++ codes " moves" ++ flat_map number_text c.moved ++ codes " shares" ++ flat_map number_text c.shared ++ codes "\n"

-- a line for each child of a fork table
abbrev pub table_lines : ℕ → ForkTable → List ℕ
table_lines t table = numbered_texts (child_line t) 0 table.children

-- all instructions, and then all fork tables
abbrev pub listing_text : Parts → List ℕ
listing_text code = numbered_texts instr_line 0 code.instrs ++ numbered_texts table_lines 0 code.forks
