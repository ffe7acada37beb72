-- None of this belongs to what the program promises: it is for contracts between crates.
-- Instructions by their words, for the parts of the reader. No public contract cites these.
use Rattle.std.specs.Prelude.{ℕ, pos, List, [], ◌∷◌, Option, find}
use Rattle.std.specs.Str.{bytes_eq}
use Rattle.sp_code.specs.declared.instr.Instr.{Instr}
use Rattle.sp_code.specs.declared.instr.Instr.TheVariants as i
use Rattle.sp_code.specs.Listing.{word}
use Rattle.sp_codefile.specs.declared.opcodes.Operand.{Operand}

-- each instruction once, with operands of 0
abbrev pub all_instrs : List Instr
all_instrs =
    i.Const (pos 0) ∷ i.Addr 0 0 ∷ i.Deref 0 0 ∷ i.Index (pos 0) (pos 0) 0 ∷ i.Field 0 ∷ i.Load ∷ i.Loadc ∷ i.Store ∷
    i.Copy 0 ∷ i.Add ∷ i.Sub ∷ i.Mul ∷ i.Div ∷ i.Mod ∷ i.Neg ∷ i.Abs ∷ i.Sqr ∷ i.Odd ∷ i.And ∷ i.Or ∷ i.Not ∷ i.Eq ∷
    i.Ne ∷ i.Lt ∷ i.Le ∷ i.Gt ∷ i.Ge ∷ i.Range (pos 0) (pos 0) ∷ i.Succ (pos 0) ∷ i.Pred (pos 0) ∷ i.Jump 0 ∷
    i.Jumpf 0 ∷ i.Casej (pos 0) 0 ∷ i.Nocase ∷ i.Tick ∷ i.Assume ∷ i.Forup 0 0 ∷ i.Fordown 0 0 ∷ i.Nextup 0 0 ∷
    i.Nextdown 0 0 ∷ i.Call 0 0 ∷ i.Return ∷ i.ReadInt ∷ i.ReadChar ∷ i.Readln ∷ i.Eof ∷ i.Eoln ∷ i.WriteInt ∷
    i.WriteChar ∷ i.WriteBool ∷ i.WriteText 0 ∷ i.WritewInt ∷ i.WritewChar ∷ i.WritewBool ∷ i.WritewText 0 ∷
    i.Writeln ∷ i.Pack 0 ∷ i.Open ∷ i.Send 0 ∷ i.Receive 0 ∷ i.Fork 0 ∷ i.Forall 0 ∷ i.End ∷ []

-- the instruction of this word
abbrev pub instr_named : List ℕ → Option Instr
instr_named text = find (λ x. bytes_eq (word x) text) all_instrs

-- the instruction with these operands in place of its own
abbrev pub with_operands : Instr → Operand → Operand → Operand → Instr
with_operands (i.Const x) a b c = i.Const a.integer
with_operands (i.Addr x y) a b c = i.Addr a.number b.number
with_operands (i.Deref x y) a b c = i.Deref a.number b.number
with_operands (i.Index x y z) a b c = i.Index a.integer b.integer c.number
with_operands (i.Field x) a b c = i.Field a.number
with_operands (i.Copy x) a b c = i.Copy a.number
with_operands (i.Range x y) a b c = i.Range a.integer b.integer
with_operands (i.Succ x) a b c = i.Succ a.integer
with_operands (i.Pred x) a b c = i.Pred a.integer
with_operands (i.Jump x) a b c = i.Jump a.number
with_operands (i.Jumpf x) a b c = i.Jumpf a.number
with_operands (i.Casej x y) a b c = i.Casej a.integer b.number
with_operands (i.Forup x y) a b c = i.Forup a.number b.number
with_operands (i.Fordown x y) a b c = i.Fordown a.number b.number
with_operands (i.Nextup x y) a b c = i.Nextup a.number b.number
with_operands (i.Nextdown x y) a b c = i.Nextdown a.number b.number
with_operands (i.Call x y) a b c = i.Call a.number b.number
with_operands (i.WriteText x) a b c = i.WriteText a.number
with_operands (i.WritewText x) a b c = i.WritewText a.number
with_operands (i.Pack x) a b c = i.Pack a.number
with_operands (i.Send x) a b c = i.Send a.number
with_operands (i.Receive x) a b c = i.Receive a.number
with_operands (i.Fork x) a b c = i.Fork a.number
with_operands (i.Forall x) a b c = i.Forall a.number
with_operands x a b c = x
