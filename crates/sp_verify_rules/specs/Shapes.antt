-- All of this belongs to what the program promises (docs/promise.txt).
-- The shapes of operands, and what each instruction takes and leaves of them. The rules of code files go by it; the
-- theorem compares it with the entries of a running process's stack.
use Rattle.std.specs.Prelude.{ℕ, zero, suc, ◌+◌, ◌-◌, ◌*◌, ℤ, ◌-ℤ◌, int_le, nat_abs, nat_le, List, [], ◌∷◌, Option}
use Rattle.std.specs.Prelude.{Some, None, Bool, true, false, ◌&&◌, if◌then◌else◌, length}
use Rattle.sp_code.specs.declared.instr.Instr.{Instr}
use Rattle.sp_code.specs.declared.instr.Instr.TheVariants as i
use Rattle.sp_code.specs.declared.code.Parts.{Parts}
use Rattle.sp_code.specs.Machine.{layout_of}
use Rattle.sp_verify_rules.specs.Areas.{Area, on_option, variable_at}

-- an ordinal; a channel; so many cells; an address in a variable, with the cells left from there on
pub data Shape : Type 0 where
  O : Shape
  C : Shape
  L : (cells : ℕ) → Shape
  A : (variable left : ℕ) → Shape

-- an operand is missing or of the wrong shape; or to which instructions it leads, each with the shapes there, the top
-- first
pub data Shaped : Type 0 where
  Wrong : Shaped
  To : (ways : List (ℕ × List Shape)) → Shaped

-- to one instruction, and to two
abbrev pub to_one : ℕ → List Shape → Shaped
to_one p ss = To ((p, ss) ∷ [])

abbrev pub to_two : ℕ → List Shape → ℕ → List Shape → Shaped
to_two p ss q ts = To ((p, ss) ∷ (q, ts) ∷ [])

-- an ordinal is taken; a channel; an address
abbrev pub take_o : List Shape → (List Shape → Shaped) → Shaped
take_o (O ∷ ss) go = go ss
take_o _ _ = Wrong

abbrev pub take_c : List Shape → (List Shape → Shaped) → Shaped
take_c (C ∷ ss) go = go ss
take_c _ _ = Wrong

abbrev pub take_a : List Shape → (ℕ → ℕ → List Shape → Shaped) → Shaped
take_a (A x n ∷ ss) go = go x n ss
take_a _ _ = Wrong

-- an ordinal or a channel; two of one kind; an ordinal, a channel or cells, with their number
abbrev pub take_value : List Shape → (List Shape → Shaped) → Shaped
take_value (O ∷ ss) go = go ss
take_value (C ∷ ss) go = go ss
take_value _ _ = Wrong

abbrev pub take_same : List Shape → (List Shape → Shaped) → Shaped
take_same (O ∷ ss) go = take_o ss go
take_same (C ∷ ss) go = take_c ss go
take_same _ _ = Wrong

abbrev pub take_cells : List Shape → (ℕ → List Shape → Shaped) → Shaped
take_cells (O ∷ ss) go = go 1 ss
take_cells (C ∷ ss) go = go 1 ss
take_cells (L n ∷ ss) go = go n ss
take_cells _ _ = Wrong

-- so many operands, whatever they are
abbrev pub take_all : ℕ → List Shape → (List Shape → Shaped) → Shaped
take_all zero ss go = go ss
take_all (suc n) [] go = Wrong
take_all (suc n) (s ∷ ss) go = take_all n ss go

-- none may be left
abbrev pub take_none : List Shape → Shaped
take_none [] = To []
take_none (s ∷ ss) = Wrong

-- an ordinal where there is an answer
abbrev pub with_answer : Bool → List Shape → List Shape
with_answer true ss = O ∷ ss
with_answer false ss = ss

-- what takes two ordinals, and what takes one, and leaves one
abbrev pub two_to_one : ℕ → List Shape → Shaped
two_to_one p ss = take_o ss (λ s1. take_o s1 (λ s2. to_one (p + 1) (O ∷ s2)))

abbrev pub one_to_one : ℕ → List Shape → Shaped
one_to_one p ss = take_o ss (λ s1. to_one (p + 1) (O ∷ s1))

-- what takes one ordinal, and what takes two
abbrev pub one_gone : ℕ → List Shape → Shaped
one_gone p ss = take_o ss (λ s1. to_one (p + 1) s1)

abbrev pub two_gone : ℕ → List Shape → Shaped
two_gone p ss = take_o ss (λ s1. take_o s1 (λ s2. to_one (p + 1) s2))

-- an address of a variable that is there
abbrev pub address_shapes : ℕ → List Shape → (number cells : ℕ) → Shaped
address_shapes p ss x n = to_one (p + 1) (A x n ∷ ss)

-- an address read
abbrev pub read_shapes : Shape → ℕ → List Shape → Shaped
read_shapes s p ss = take_a ss (λ x n s1. to_one (p + 1) (s ∷ s1))

-- an address filled
abbrev pub fill_shapes : ℕ → List Shape → Shaped
fill_shapes p ss = take_a ss (λ x n s1. to_one (p + 1) s1)

-- the first value of a loop, and the next one
abbrev pub loop_start_shapes : ℕ → ℕ → List Shape → Shaped
loop_start_shapes p to ss = take_o ss (λ s1. take_o s1 (λ s2. to_two (p + 1) (O ∷ s2) to s2))

abbrev pub loop_end_shapes : ℕ → ℕ → List Shape → Shaped
loop_end_shapes p to ss = take_o ss (λ s1. to_two to (O ∷ s1) (p + 1) s1)

-- how many indices there are from low to high
abbrev pub span : ℤ → ℤ → ℕ
span low high = if int_le low high then nat_abs (high -ℤ low) + 1 else 0

module _ (c : Parts) (a : Area) where
  -- an instruction that stands at p in an area, with these shapes on the stack
  abbrev pub instr_shapes : Option Instr → ℕ → List Shape → Shaped
  instr_shapes None p ss = Wrong
  instr_shapes (Some (i.Const v)) p ss = to_one (p + 1) (O ∷ ss)
  instr_shapes (Some (i.Addr up var)) p ss = on_option Wrong (variable_at c a up var)
      (λ f. address_shapes p ss f.number f.cells)
  instr_shapes (Some (i.Deref up var)) p ss = on_option Wrong (variable_at c a up var)
      (λ f. address_shapes p ss f.number f.cells)
  instr_shapes (Some (i.Index low high size)) p ss =
      take_o ss (λ s1. take_a s1 (λ x n s2. to_one (p + 1) (A x size ∷ s2)))
  instr_shapes (Some (i.Field k)) p ss = take_a ss (λ x n s1. to_one (p + 1) (A x (n - k) ∷ s1))
  instr_shapes (Some i.Load) p ss = read_shapes O p ss
  instr_shapes (Some i.Loadc) p ss = read_shapes C p ss
  instr_shapes (Some i.Store) p ss = take_value ss (λ s1. fill_shapes p s1)
  instr_shapes (Some (i.Copy k)) p ss = take_a ss (λ x n s1. fill_shapes p s1)
  instr_shapes (Some i.Add) p ss = two_to_one p ss
  instr_shapes (Some i.Sub) p ss = two_to_one p ss
  instr_shapes (Some i.Mul) p ss = two_to_one p ss
  instr_shapes (Some i.Div) p ss = two_to_one p ss
  instr_shapes (Some i.Mod) p ss = two_to_one p ss
  instr_shapes (Some i.Neg) p ss = one_to_one p ss
  instr_shapes (Some i.Abs) p ss = one_to_one p ss
  instr_shapes (Some i.Sqr) p ss = one_to_one p ss
  instr_shapes (Some i.Odd) p ss = one_to_one p ss
  instr_shapes (Some i.And) p ss = two_to_one p ss
  instr_shapes (Some i.Or) p ss = two_to_one p ss
  instr_shapes (Some i.Not) p ss = one_to_one p ss
  instr_shapes (Some i.Eq) p ss = take_same ss (λ s1. to_one (p + 1) (O ∷ s1))
  instr_shapes (Some i.Ne) p ss = take_same ss (λ s1. to_one (p + 1) (O ∷ s1))
  instr_shapes (Some i.Lt) p ss = two_to_one p ss
  instr_shapes (Some i.Le) p ss = two_to_one p ss
  instr_shapes (Some i.Gt) p ss = two_to_one p ss
  instr_shapes (Some i.Ge) p ss = two_to_one p ss
  instr_shapes (Some (i.Range low high)) p ss = one_to_one p ss
  instr_shapes (Some (i.Succ high)) p ss = one_to_one p ss
  instr_shapes (Some (i.Pred low)) p ss = one_to_one p ss
  instr_shapes (Some (i.Jump to)) p ss = to_one to ss
  instr_shapes (Some (i.Jumpf to)) p ss = take_o ss (λ s1. to_two (p + 1) s1 to s1)
  instr_shapes (Some (i.Casej v to)) p ss = take_o ss (λ s1. to_two (p + 1) (O ∷ s1) to s1)
  instr_shapes (Some i.Nocase) p ss = one_gone p ss
  instr_shapes (Some i.Tick) p ss = to_one (p + 1) ss
  instr_shapes (Some i.Assume) p ss = one_gone p ss
  instr_shapes (Some (i.Forup var to)) p ss = loop_start_shapes p to ss
  instr_shapes (Some (i.Fordown var to)) p ss = loop_start_shapes p to ss
  instr_shapes (Some (i.Nextup var to)) p ss = loop_end_shapes p to ss
  instr_shapes (Some (i.Nextdown var to)) p ss = loop_end_shapes p to ss
  instr_shapes (Some (i.Call b up)) p ss = on_option Wrong (layout_of c.layouts b)
      (λ l. take_all (length l.formals) ss (λ s1. to_one (p + 1) (with_answer l.answer s1)))
  instr_shapes (Some i.Return) p ss = take_none ss
  instr_shapes (Some i.ReadInt) p ss = fill_shapes p ss
  instr_shapes (Some i.ReadChar) p ss = fill_shapes p ss
  instr_shapes (Some i.Readln) p ss = to_one (p + 1) ss
  instr_shapes (Some i.Eof) p ss = to_one (p + 1) (O ∷ ss)
  instr_shapes (Some i.Eoln) p ss = to_one (p + 1) (O ∷ ss)
  instr_shapes (Some i.WriteInt) p ss = one_gone p ss
  instr_shapes (Some i.WriteChar) p ss = one_gone p ss
  instr_shapes (Some i.WriteBool) p ss = one_gone p ss
  instr_shapes (Some (i.WriteText k)) p ss = to_one (p + 1) ss
  instr_shapes (Some i.WritewInt) p ss = two_gone p ss
  instr_shapes (Some i.WritewChar) p ss = two_gone p ss
  instr_shapes (Some i.WritewBool) p ss = two_gone p ss
  instr_shapes (Some (i.WritewText k)) p ss = one_gone p ss
  instr_shapes (Some i.Writeln) p ss = to_one (p + 1) ss
  instr_shapes (Some (i.Pack k)) p ss = read_shapes (L k) p ss
  instr_shapes (Some i.Open) p ss = fill_shapes p ss
  instr_shapes (Some (i.Send k)) p ss = take_cells ss (λ n s1. take_c s1 (λ s2. to_one (p + 1) s2))
  instr_shapes (Some (i.Receive k)) p ss = take_a ss (λ x n s1. take_c s1 (λ s2. to_one (p + 1) s2))
  instr_shapes (Some (i.Fork t)) p ss = to_one (p + 1) ss
  instr_shapes (Some (i.Forall t)) p ss = two_gone p ss
  instr_shapes (Some i.End) p ss = take_none ss

-- ---- cells left

-- the topmost operand is no address, or has so many cells left
abbrev pub has_left : ℕ → List Shape → Bool
has_left k (A x n ∷ ss) = nat_le k n
has_left _ _ = true

-- those below the topmost
abbrev pub below_topmost : List Shape → List Shape
below_topmost [] = []
below_topmost (s ∷ ss) = ss

-- the instruction passes no cells left
abbrev pub stays_within : Option Instr → List Shape → Bool
stays_within (Some (i.Index low high size)) ss = has_left (span low high * size) (below_topmost ss)
stays_within (Some (i.Field k)) ss = has_left k ss
stays_within (Some i.Load) ss = has_left 1 ss
stays_within (Some i.Loadc) ss = has_left 1 ss
stays_within (Some i.Store) ss = has_left 1 (below_topmost ss)
stays_within (Some (i.Copy k)) ss = has_left k ss && has_left k (below_topmost ss)
stays_within (Some (i.Pack k)) ss = has_left k ss
stays_within (Some i.ReadInt) ss = has_left 1 ss
stays_within (Some i.ReadChar) ss = has_left 1 ss
stays_within (Some i.Open) ss = has_left 1 ss
stays_within _ ss = true
