-- None of this belongs to what the program promises: it is for contracts between crates.
-- What each instruction takes from the stack, what it leaves there, and where it goes on: the rule in a few forms.
use Rattle.std.specs.Prelude.{ℕ, ◌+◌, ◌-◌, List, [], ◌∷◌, Option, Some, None, if◌then◌else◌, length}
use Rattle.sp_code.specs.declared.instr.Instr.{Instr}
use Rattle.sp_code.specs.declared.instr.Instr.TheVariants as i
use Rattle.sp_code.specs.declared.code.Layout.{Layout}
use Rattle.sp_code.specs.declared.code.Parts.{Parts}
use Rattle.sp_code.specs.Machine.{layout_of}
use Rattle.sp_verify_rules.specs.Areas.{Area, VariableInfo, variable_at}
use Rattle.sp_verify_rules.specs.Shapes.{Shape, Shaped, Wrong, To, to_one, to_two, take_o, take_c, take_a, take_value}
use Rattle.sp_verify_rules.specs.Shapes.{take_same}
use Rattle.sp_verify_rules.specs.Shapes.{take_cells, take_all}
use Rattle.sp_verify_shapes.specs.declared.stacks.Shape.{Shape as Kept}
use Rattle.sp_verify_shapes.specs.declared.stacks.Shape.TheVariants as kept
use Rattle.sp_verify_shapes.specs.declared.plans.OperandKind.{OperandKind}
use Rattle.sp_verify_shapes.specs.declared.plans.OperandKind.TheVariants as kind
use Rattle.sp_verify_shapes.specs.declared.plans.Takes.{Takes}
use Rattle.sp_verify_shapes.specs.declared.plans.Takes.TheVariants as takes
use Rattle.sp_verify_shapes.specs.declared.plans.Leaves.{Leaves}
use Rattle.sp_verify_shapes.specs.declared.plans.Leaves.TheVariants as leaves
use Rattle.sp_verify_shapes.specs.declared.plans.Successor.{Successor}
use Rattle.sp_verify_shapes.specs.declared.plans.Successor.TheVariants as goes
use Rattle.sp_verify_shapes.specs.declared.plans.Plan.{Plan}
use Rattle.sp_verify_shapes.specs.Stacks.{shape_of}

-- ---- the forms

abbrev pub straight_plan : Plan
straight_plan = record { takes = takes.Nothing; leaves = leaves.Nothing; goes = goes.FallThrough }

abbrev pub push_plan : Kept → Plan
push_plan s = record { takes = takes.Nothing; leaves = leaves.One s; goes = goes.FallThrough }

abbrev pub two_to_one : Plan
two_to_one = record {
  takes = takes.Two kind.Ordinal kind.Ordinal;
  leaves = leaves.One kept.Ordinal;
  goes =
      goes.FallThrough;
}

abbrev pub one_to_one : Plan
one_to_one = record { takes = takes.One kind.Ordinal; leaves = leaves.One kept.Ordinal; goes = goes.FallThrough }

abbrev pub one_gone : Plan
one_gone = record { takes = takes.One kind.Ordinal; leaves = leaves.Nothing; goes = goes.FallThrough }

abbrev pub two_gone : Plan
two_gone = record { takes = takes.Two kind.Ordinal kind.Ordinal; leaves = leaves.Nothing; goes = goes.FallThrough }

abbrev pub read_plan : Kept → Plan
read_plan s = record { takes = takes.One kind.Address; leaves = leaves.One s; goes = goes.FallThrough }

abbrev pub fill_plan : Plan
fill_plan = record { takes = takes.One kind.Address; leaves = leaves.Nothing; goes = goes.FallThrough }

abbrev pub pair_gone : OperandKind → OperandKind → Plan
pair_gone k j = record { takes = takes.Two k j; leaves = leaves.Nothing; goes = goes.FallThrough }

abbrev pub compare_plan : Plan
compare_plan = record { takes = takes.Same; leaves = leaves.One kept.Ordinal; goes = goes.FallThrough }

abbrev pub last_plan : Plan
last_plan = record { takes = takes.Last; leaves = leaves.Nothing; goes = goes.Nowhere }

abbrev pub plan_of_parts : Takes → Leaves → Successor → Plan
plan_of_parts t l g = record { takes = t; leaves = l; goes = g }

-- an instruction that names no variable and calls no block
abbrev pub plain_plan : Instr → Plan
plain_plan (i.Const v) = push_plan kept.Ordinal
plain_plan (i.Index low high size) = plan_of_parts (takes.Two kind.Ordinal kind.Address)
    (leaves.Inside size) goes.FallThrough
plain_plan (i.Field k) = plan_of_parts (takes.One kind.Address) (leaves.Further k) goes.FallThrough
plain_plan i.Load = read_plan kept.Ordinal
plain_plan i.Loadc = read_plan kept.Channel
plain_plan i.Store = pair_gone kind.Value kind.Address
plain_plan (i.Copy v) = pair_gone kind.Address kind.Address
plain_plan i.Add = two_to_one
plain_plan i.Sub = two_to_one
plain_plan i.Mul = two_to_one
plain_plan i.Div = two_to_one
plain_plan i.Mod = two_to_one
plain_plan i.Neg = one_to_one
plain_plan i.Abs = one_to_one
plain_plan i.Sqr = one_to_one
plain_plan i.Odd = one_to_one
plain_plan i.And = two_to_one
plain_plan i.Or = two_to_one
plain_plan i.Not = one_to_one
plain_plan i.Eq = compare_plan
plain_plan i.Ne = compare_plan
plain_plan i.Lt = two_to_one
plain_plan i.Le = two_to_one
plain_plan i.Gt = two_to_one
plain_plan i.Ge = two_to_one
plain_plan (i.Range low high) = one_to_one
plain_plan (i.Succ v) = one_to_one
plain_plan (i.Pred v) = one_to_one
plain_plan (i.Jump to) = plan_of_parts takes.Nothing leaves.Nothing (goes.There to)
plain_plan (i.Jumpf to) = plan_of_parts (takes.One kind.Ordinal) leaves.Nothing (goes.Either to)
plain_plan (i.Casej v to) = plan_of_parts (takes.One kind.Ordinal) (leaves.One kept.Ordinal) (goes.Past to)
plain_plan i.Nocase = one_gone
plain_plan i.Tick = straight_plan
plain_plan i.Assume = one_gone
plain_plan (i.Forup var to) = plan_of_parts (takes.Two kind.Ordinal kind.Ordinal) (leaves.One kept.Ordinal)
    (goes.Past to)
plain_plan (i.Fordown var to) = plan_of_parts (takes.Two kind.Ordinal kind.Ordinal) (leaves.One kept.Ordinal)
    (goes.Past to)
plain_plan (i.Nextup var to) = plan_of_parts (takes.One kind.Ordinal) (leaves.One kept.Ordinal) (goes.Back to)
plain_plan (i.Nextdown var to) = plan_of_parts (takes.One kind.Ordinal) (leaves.One kept.Ordinal) (goes.Back to)
plain_plan i.Return = last_plan
plain_plan i.ReadInt = fill_plan
plain_plan i.ReadChar = fill_plan
plain_plan i.Readln = straight_plan
plain_plan i.Eof = push_plan kept.Ordinal
plain_plan i.Eoln = push_plan kept.Ordinal
plain_plan i.WriteInt = one_gone
plain_plan i.WriteChar = one_gone
plain_plan i.WriteBool = one_gone
plain_plan (i.WriteText v) = straight_plan
plain_plan i.WritewInt = two_gone
plain_plan i.WritewChar = two_gone
plain_plan i.WritewBool = two_gone
plain_plan (i.WritewText v) = one_gone
plain_plan i.Writeln = straight_plan
plain_plan (i.Pack k) = read_plan (kept.Cells k)
plain_plan i.Open = fill_plan
plain_plan (i.Send v) = pair_gone kind.Message kind.Channel
plain_plan (i.Receive v) = pair_gone kind.Address kind.Channel
plain_plan (i.Fork v) = straight_plan
plain_plan (i.Forall v) = two_gone
plain_plan i.End = last_plan
plain_plan _ = straight_plan

-- one that names a variable, and a call
abbrev pub address_plan : Option VariableInfo → Option Plan
address_plan None = None
address_plan (Some f) = Some (push_plan (kept.Address f.number f.cells))

abbrev pub layout_call_plan : Layout → Plan
layout_call_plan l = plan_of_parts (takes.Many (length l.formals))
    (if l.answer then leaves.One kept.Ordinal else leaves.Nothing) goes.FallThrough

abbrev pub call_plan : Option Layout → Option Plan
call_plan None = None
call_plan (Some l) = Some (layout_call_plan l)

-- an instruction in an area
abbrev pub plan_at : Parts → Area → Instr → Option Plan
plan_at c a (i.Addr up var) = address_plan (variable_at c a up var)
plan_at c a (i.Deref up var) = address_plan (variable_at c a up var)
plan_at c a (i.Call b up) = call_plan (layout_of c.layouts b)
plan_at c a o = Some (plain_plan o)

-- ---- what the forms do

-- an operand of a kind is taken; of an address the variable and the cells left go on too
abbrev pub take_one : OperandKind → List Shape → (ℕ → ℕ → List Shape → Shaped) → Shaped
take_one kind.Ordinal ss go = take_o ss (go 0 0)
take_one kind.Channel ss go = take_c ss (go 0 0)
take_one kind.Address ss go = take_a ss go
take_one kind.Value ss go = take_value ss (go 0 0)
take_one kind.Message ss go = take_cells ss (λ n. go 0 0)

-- nothing may be there
abbrev pub take_last : List Shape → (List Shape → Shaped) → Shaped
take_last [] go = go []
take_last (s ∷ ss) go = Wrong

abbrev pub take : Takes → List Shape → (ℕ → ℕ → List Shape → Shaped) → Shaped
take takes.Nothing ss go = go 0 0 ss
take (takes.One k) ss go = take_one k ss go
take (takes.Two k j) ss go = take_one k ss (λ x n s1. take_one j s1 go)
take takes.Same ss go = take_same ss (go 0 0)
take (takes.Many n) ss go = take_all n ss (go 0 0)
take takes.Last ss go = take_last ss (go 0 0)

-- the shape that is left, by the variable and the cells left of the address that was taken
abbrev pub left : Leaves → ℕ → ℕ → Option Kept
left leaves.Nothing x n = None
left (leaves.One s) x n = Some s
left (leaves.Inside size) x n = Some (kept.Address x size)
left (leaves.Further k) x n = Some (kept.Address x (n - k))

abbrev pub with_top : Option Kept → List Shape → List Shape
with_top None ss = ss
with_top (Some s) ss = shape_of s ∷ ss

-- on from p, with what is left on top and with the rest alone
abbrev pub go_on : Successor → ℕ → List Shape → List Shape → Shaped
go_on goes.Nowhere p ts ss = To []
go_on goes.FallThrough p ts ss = to_one (p + 1) ts
go_on (goes.There to) p ts ss = to_one to ts
go_on (goes.Either to) p ts ss = to_two (p + 1) ts to ts
go_on (goes.Past to) p ts ss = to_two (p + 1) ts to ss
go_on (goes.Back to) p ts ss = to_two to ts (p + 1) ss

-- where that is
abbrev pub goes_to : Successor → ℕ → List ℕ
goes_to goes.Nowhere p = []
goes_to goes.FallThrough p = (p + 1) ∷ []
goes_to (goes.There to) p = to ∷ []
goes_to (goes.Either to) p = (p + 1) ∷ to ∷ []
goes_to (goes.Past to) p = (p + 1) ∷ to ∷ []
goes_to (goes.Back to) p = to ∷ (p + 1) ∷ []

-- what was taken is gone, and it goes on with what is left
abbrev pub goes_with : Plan → ℕ → ℕ → ℕ → List Shape → Shaped
goes_with pl p x n ss = go_on pl.goes p (with_top (left pl.leaves x n) ss) ss

abbrev pub by_plan : Plan → ℕ → List Shape → Shaped
by_plan pl p ss = take pl.takes ss (goes_with pl p)
