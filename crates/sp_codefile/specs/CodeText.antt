-- All of this belongs to what the program promises (docs/promise.txt).
-- The text of code, and which line of other bytes is the first bad one. The text has a first line, and then a line for
-- each layout, text, instruction and child of a fork table. Writing and reading code files promise the same definition,
-- which makes the two inverse.
use Rattle.std.specs.Prelude.{◌≡◌, ℕ, suc, zero, ◌-◌, ◌/◌, ◌%◌, ◌^◌, ◌<◌, Bool, true, false, List, [], ◌∷◌, ◌++◌}
use Rattle.std.specs.Prelude.{length, take, Option, Some, None, All, codes}
use Rattle.std.specs.List.{flat_map}
use Rattle.std.specs.Fmt.{digit_glyph}
use Rattle.std.specs.Prelude.{FitsSigned, ℤ}
use Rattle.std.specs.Int.{w64}
use Rattle.sp_code.specs.declared.code.ChildTable.{ChildTable}
use Rattle.sp_code.specs.declared.code.ForkTable.{ForkTable}
use Rattle.sp_code.specs.declared.code.Formal.{Formal}
use Rattle.sp_code.specs.declared.code.Formal.TheVariants as formal
use Rattle.sp_code.specs.declared.code.Layout.{Layout}
use Rattle.sp_code.specs.declared.code.Parts.{Parts}
use Rattle.sp_code.specs.declared.instr.Instr.{Instr}
use Rattle.sp_code.specs.declared.instr.Instr.TheVariants as i
use Rattle.sp_code.specs.Listing.{number_text, numbered_texts, instr_line, child_line}
use Rattle.sp_code.specs.Sizes.{KeepsSizes}

-- the block around a block, if there is one
abbrev pub parent_text : Option ℕ → List ℕ
parent_text None = codes " -"
parent_text (Some b) = number_text b

-- whether a block has a result
abbrev pub answer_text : Bool → List ℕ
answer_text true = codes " answer"
answer_text false = codes " none"

abbrev pub formal_text : Formal → List ℕ
formal_text (formal.Value n) = codes " value" ++ number_text n
formal_text (formal.Reference n) = codes " reference" ++ number_text n

-- a layout without its line feed, as `layout 0 0 - none sizes 1 variables 2 formals`
abbrev pub layout_text : Layout → List ℕ
layout_text l =
    codes "layout" ++ number_text l.block ++ number_text l.entry ++ parent_text l.parent ++ answer_text l.answer
    ++ codes " sizes" ++ flat_map number_text l.sizes ++ codes " variables" ++ flat_map number_text l.variables
    ++ codes " formals" ++ flat_map formal_text l.formals

-- a byte as two hexadecimal digits in lower case
abbrev pub byte_text : ℕ → List ℕ
byte_text b = digit_glyph false (b / 16) ∷ digit_glyph false (b % 16) ∷ []

-- a text without its line feed, as `text 6f6b`; an empty text leaves its space
abbrev pub text_text : List ℕ → List ℕ
text_text t = codes "text " ++ flat_map byte_text t

-- the index of a forall, if there is one
abbrev pub index_text : Option ℕ → List ℕ
index_text None = []
index_text (Some v) = codes " index" ++ number_text v

-- a line without its line feed
abbrev pub body : List ℕ → List ℕ
body line = take (length line - 1) line

-- child k of fork table t as the listing has it, with the index behind, as `table 0 child 0 entry 7 moves shares 3
-- index 4`
abbrev pub child_text : ℕ → ℕ → ChildTable → List ℕ
child_text t k c = body (child_line t k c) ++ index_text c.index

-- a text on a line of its own
abbrev pub line : List ℕ → List ℕ
line text = text ++ codes "\n"

-- the line of child k of fork table t, and a line for each child
abbrev pub child_of : ℕ → ℕ → ChildTable → List ℕ
child_of t k c = line (child_text t k c)

abbrev pub table_text : ℕ → ForkTable → List ℕ
table_text t table = numbered_texts (child_of t) 0 table.children

-- the first line, all layouts, all texts, all instructions as the listing has them, and all fork tables
abbrev pub code_text : Parts → List ℕ
code_text code =
    codes "superpascal code 1\n" ++ flat_map (λ l. line (layout_text l)) code.layouts
    ++ flat_map (λ t. line (text_text t)) code.texts
    ++ numbered_texts instr_line 0 code.instrs ++ numbered_texts table_text 0 code.forks

-- a number of 32 bits
abbrev pub IsNumber : ℕ → Type 0
IsNumber n = n < 2 ^ 32

-- a number of 64 bits with its sign
abbrev pub IsInteger : ℤ → Type 0
IsInteger z = FitsSigned w64 z

-- where there is a number, it is one of 32 bits
abbrev pub MayBeNumber : Option ℕ → Type 0
MayBeNumber None = Unit {0}
MayBeNumber (Some n) = IsNumber n

abbrev pub FormalFits : Formal → Type 0
FormalFits (formal.Value n) = IsNumber n
FormalFits (formal.Reference n) = IsNumber n

pub record LayoutFits (l : Layout) : Type 0 where
  pub block : IsNumber l.block
  pub entry : IsNumber l.entry
  pub parent : MayBeNumber l.parent
  pub sizes : All IsNumber l.sizes
  pub variables : All IsNumber l.variables
  pub formals : All FormalFits l.formals

pub record ChildFits (c : ChildTable) : Type 0 where
  pub entry : IsNumber c.entry
  pub moved : All IsNumber c.moved
  pub shared : All IsNumber c.shared
  pub index : MayBeNumber c.index

-- its children have numbers of 64 bits
pub record TableFits (t : ForkTable) : Type 0 where
  pub count : length t.children < 2 ^ 64
  pub children : All ChildFits t.children

abbrev pub IsByte : ℕ → Type 0
IsByte b = b < 256

-- each operand is a number of its type
abbrev pub InstrFits : Instr → Type 0
InstrFits (i.Const v) = IsInteger v
InstrFits (i.Addr up var) = IsNumber up × IsNumber var
InstrFits (i.Deref up var) = IsNumber up × IsNumber var
InstrFits (i.Index low high size) = IsInteger low × IsInteger high × IsNumber size
InstrFits (i.Field n) = IsNumber n
InstrFits (i.Copy n) = IsNumber n
InstrFits (i.Range low high) = IsInteger low × IsInteger high
InstrFits (i.Succ high) = IsInteger high
InstrFits (i.Pred low) = IsInteger low
InstrFits (i.Jump to) = IsNumber to
InstrFits (i.Jumpf to) = IsNumber to
InstrFits (i.Casej value to) = IsInteger value × IsNumber to
InstrFits (i.Forup var to) = IsNumber var × IsNumber to
InstrFits (i.Fordown var to) = IsNumber var × IsNumber to
InstrFits (i.Nextup var to) = IsNumber var × IsNumber to
InstrFits (i.Nextdown var to) = IsNumber var × IsNumber to
InstrFits (i.Call block up) = IsNumber block × IsNumber up
InstrFits (i.WriteText n) = IsNumber n
InstrFits (i.WritewText n) = IsNumber n
InstrFits (i.Pack n) = IsNumber n
InstrFits (i.Send message) = IsNumber message
InstrFits (i.Receive message) = IsNumber message
InstrFits (i.Fork table) = IsNumber table
InstrFits (i.Forall table) = IsNumber table
InstrFits x = Unit {0}

-- parts that a code may have: of its sizes, with numbers that are of their types
pub record IsCode (p : Parts) : Type 0 where
  pub sizes : KeepsSizes p
  pub layouts : All LayoutFits p.layouts
  pub texts : All (All IsByte) p.texts
  pub instrs : All InstrFits p.instrs
  pub forks : All TableFits p.forks

-- these bytes are the text of this code
pub record IsTextOf (p : Parts) (bytes : List ℕ) : Type 0 where
  pub code : IsCode p
  pub text : bytes ≡ code_text p

-- these bytes are the text of some code
abbrev pub IsText : List ℕ → Type 0
IsText bytes = (p : Parts) × IsTextOf p bytes

-- no byte is a line feed
abbrev pub IsOneLine : List ℕ → Type 0
IsOneLine [] = Unit {0}
IsOneLine (b ∷ bs) = (b ≡ 10 → ⊥) × IsOneLine bs

-- n lines, each with its line feed
abbrev pub AreLines : ℕ → List ℕ → Type 0
AreLines zero bytes = bytes ≡ []
AreLines (suc n) bytes = (text rest : List ℕ) × IsOneLine text × (bytes ≡ text ++ 10 ∷ rest) × AreLines n rest

-- the bytes have n lines, and with these some code's text begins
pub record BeginsCode (n : ℕ) (bytes : List ℕ) : Type 0 where
  pub lines : List ℕ
  pub rest : List ℕ
  pub more : List ℕ
  pub are_lines : AreLines n lines
  pub joined : bytes ≡ lines ++ rest
  pub begins : IsText (lines ++ more)

-- line n, from 1 on, is the first with which the lines begin no code's text, or the next line that is missing
pub record IsFirstBad (n : ℕ) (bytes : List ℕ) : Type 0 where
  pub before : (m : ℕ) × (n ≡ suc m) × BeginsCode m bytes
  pub here : BeginsCode n bytes → ⊥
  pub whole : IsText bytes → ⊥
