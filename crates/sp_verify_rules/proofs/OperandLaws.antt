-- What is on top of the stack where the shapes say so: each way in which an instruction takes operands is fine where
-- the shapes are right.
use Rattle.std.proofs.Common.{◌≡◌, ℕ, zero, suc, ◌==◌, ℤ, List, [], ◌∷◌, length, Option, Some, Bool, true, false}
use Rattle.std.proofs.Common.{if◌then◌else◌, refl, sym, ap, subst}
use Rattle.sp_base.specs.declared.fault.Fault.{Fault}
use Rattle.sp_base.specs.declared.fault.Fault.TheVariants as fault
use Rattle.sp_tree.specs.Operators.{OperatorResult, Yields, OperatorFault, same_ordinal}
use Rattle.sp_cell.specs.declared.cell.Cell.{Cell}
use Rattle.sp_cell.specs.declared.cell.Cell.TheVariants as cell
use Rattle.sp_cell.specs.declared.spot.Address.{Address}
use Rattle.sp_code.specs.declared.code.Parts.{Parts}
use Rattle.sp_code.specs.Machine.{Entry, Number, Chan, Pointer, Cells, Link, Reply, MemoryResult, Done, Failed}
use Rattle.sp_code.specs.Machine.{StepResult, Fails}
use Rattle.sp_code.specs.Machine.{on_number, on_channel, on_address, on_cell, on_cells, on_equals, pop, when, on_some}
use Rattle.sp_code.specs.Machine.{then_go, on_result, ordinal_in, channel_in}
use Rattle.sp_code.specs.Memory.{Frame, Memory}
use Rattle.sp_verify_rules.specs.Areas.{Area}
use Rattle.sp_verify_rules.specs.Shapes.{Shape, O, C, L, A, Shaped, Wrong, To, take_o, take_c, take_a, take_value}
use Rattle.sp_verify_rules.specs.Shapes.{take_same}
use Rattle.sp_verify_rules.specs.Shapes.{take_cells, take_all}
use Rattle.sp_verify_rules.specs.Reach.{Reaches}
use Rattle.sp_verify_rules.specs.InstructionFacts.{Points, Operands, message_cells}
use Rattle.sp_verify_rules.specs.Changes.{Pairs}
use Rattle.sp_verify_rules.specs.Rules as rule

module _ (c : Parts) (a : Area) where
  -- each way leads to where its shapes are brought
  abbrev pub AllReached : List (ℕ × List Shape) → Type 0
  AllReached [] = Unit {0}
  AllReached (w ∷ ws) = Reaches c a w.0 w.1 × AllReached ws

  abbrev pub LeadsToReached : Shaped → Type 0
  LeadsToReached Wrong = ⊥
  LeadsToReached (To ws) = AllReached ws

-- F: what is to be shown of an outcome
module _ {S : Type 0} (c : Parts) (a : Area) (fs : List Frame) (rest : List Entry) (F : StepResult (Memory S)
    → Type 0) (fails : (f : Fault) → F (Fails f)) where
  -- P: what is known of the shapes
  pub number : (P : List Shape → Type 0) (ss : List Shape) (st : List Entry) (k : List Shape → Shaped) (go : ℤ
      → List Entry → StepResult (Memory S)) → P ss → Operands c.layouts fs ss st rest → LeadsToReached c a (take_o ss k)
      → ((v : ℤ) (ts : List Shape) (s1 : List Entry) → P (O ∷ ts) → Operands c.layouts fs ts s1 rest
      → LeadsToReached c a (k ts)
      → F (go v s1)) → F (on_number st go)
  number P [] st k go w o g h = absurd g
  number P (O ∷ ss) [] k go w o g h = absurd o
  number P (O ∷ ss) (Number v ∷ st) k go w o g h = h v ss st w o.1 g
  number P (O ∷ ss) (Chan d ∷ st) k go w o g h = absurd o.0
  number P (O ∷ ss) (Pointer q ∷ st) k go w o g h = absurd o.0
  number P (O ∷ ss) (Cells cs ∷ st) k go w o g h = absurd o.0
  number P (O ∷ ss) (Link r ∷ st) k go w o g h = absurd o.0
  number P (O ∷ ss) (Reply r ∷ st) k go w o g h = absurd o.0
  number P (C ∷ ss) st k go w o g h = absurd g
  number P (L n ∷ ss) st k go w o g h = absurd g
  number P (A x n ∷ ss) st k go w o g h = absurd g

  pub channel : (P : List Shape → Type 0) (ss : List Shape) (st : List Entry) (k : List Shape → Shaped) (go : ℕ
      → List Entry → StepResult (Memory S)) → P ss → Operands c.layouts fs ss st rest → LeadsToReached c a (take_c ss k)
      → ((v : ℕ) (ts : List Shape) (s1 : List Entry) → P (C ∷ ts) → Operands c.layouts fs ts s1 rest
      → LeadsToReached c a (k ts)
      → F (go v s1)) → F (on_channel st go)
  channel P [] st k go w o g h = absurd g
  channel P (C ∷ ss) [] k go w o g h = absurd o
  channel P (C ∷ ss) (Number v ∷ st) k go w o g h = absurd o.0
  channel P (C ∷ ss) (Chan d ∷ st) k go w o g h = h d ss st w o.1 g
  channel P (C ∷ ss) (Pointer q ∷ st) k go w o g h = absurd o.0
  channel P (C ∷ ss) (Cells cs ∷ st) k go w o g h = absurd o.0
  channel P (C ∷ ss) (Link r ∷ st) k go w o g h = absurd o.0
  channel P (C ∷ ss) (Reply r ∷ st) k go w o g h = absurd o.0
  channel P (O ∷ ss) st k go w o g h = absurd g
  channel P (L n ∷ ss) st k go w o g h = absurd g
  channel P (A x n ∷ ss) st k go w o g h = absurd g

  pub address : (P : List Shape → Type 0) (ss : List Shape) (st : List Entry) (k : ℕ → ℕ → List Shape
      → Shaped) (go : Address → List Entry → StepResult (Memory S)) → P ss → Operands c.layouts fs ss st rest
      → LeadsToReached c a (take_a ss k)
      → ((q : Address) (x n : ℕ) (ts : List Shape) (s1 : List Entry) → P (A x n ∷ ts) → Points c.layouts fs x n q
      → Operands c.layouts fs ts s1 rest → LeadsToReached c a (k x n ts) → F (go q s1)) → F (on_address st go)
  address P [] st k go w o g h = absurd g
  address P (A x n ∷ ss) [] k go w o g h = absurd o
  address P (A x n ∷ ss) (Number v ∷ st) k go w o g h = absurd o.0
  address P (A x n ∷ ss) (Chan d ∷ st) k go w o g h = absurd o.0
  address P (A x n ∷ ss) (Pointer q ∷ st) k go w o g h = h q x n ss st w o.0 o.1 g
  address P (A x n ∷ ss) (Cells cs ∷ st) k go w o g h = absurd o.0
  address P (A x n ∷ ss) (Link r ∷ st) k go w o g h = absurd o.0
  address P (A x n ∷ ss) (Reply r ∷ st) k go w o g h = absurd o.0
  address P (O ∷ ss) st k go w o g h = absurd g
  address P (C ∷ ss) st k go w o g h = absurd g
  address P (L n ∷ ss) st k go w o g h = absurd g

  pub value : (P : List Shape → Type 0) (ss : List Shape) (st : List Entry) (k : List Shape → Shaped) (go : Cell
      → List Entry → StepResult (Memory S)) → P ss → Operands c.layouts fs ss st rest
      → LeadsToReached c a (take_value ss k)
      → ((v : Cell) (s : Shape) (ts : List Shape) (s1 : List Entry) → P (s ∷ ts) → Operands c.layouts fs ts s1 rest
      → LeadsToReached c a (k ts) → F (go v s1)) → F (on_cell st go)
  value P [] st k go w o g h = absurd g
  value P (O ∷ ss) [] k go w o g h = absurd o
  value P (O ∷ ss) (Number v ∷ st) k go w o g h = h (cell.Ordinal v) O ss st w o.1 g
  value P (O ∷ ss) (Chan d ∷ st) k go w o g h = absurd o.0
  value P (O ∷ ss) (Pointer q ∷ st) k go w o g h = absurd o.0
  value P (O ∷ ss) (Cells cs ∷ st) k go w o g h = absurd o.0
  value P (O ∷ ss) (Link r ∷ st) k go w o g h = absurd o.0
  value P (O ∷ ss) (Reply r ∷ st) k go w o g h = absurd o.0
  value P (C ∷ ss) [] k go w o g h = absurd o
  value P (C ∷ ss) (Number v ∷ st) k go w o g h = absurd o.0
  value P (C ∷ ss) (Chan d ∷ st) k go w o g h = h (cell.Channel d) C ss st w o.1 g
  value P (C ∷ ss) (Pointer q ∷ st) k go w o g h = absurd o.0
  value P (C ∷ ss) (Cells cs ∷ st) k go w o g h = absurd o.0
  value P (C ∷ ss) (Link r ∷ st) k go w o g h = absurd o.0
  value P (C ∷ ss) (Reply r ∷ st) k go w o g h = absurd o.0
  value P (L n ∷ ss) st k go w o g h = absurd g
  value P (A x n ∷ ss) st k go w o g h = absurd g

  -- cells of a message, as many as the shape says
  pub cells : (P : List Shape → Type 0) (ss : List Shape) (st : List Entry) (k : ℕ → List Shape
      → Shaped) (go : List Cell → List Entry → StepResult (Memory S)) → P ss → Operands c.layouts fs ss st rest
      → LeadsToReached c a (take_cells ss k)
      → ((v : List Cell) (s : Shape) (ts : List Shape) (s1 : List Entry) → P (s ∷ ts)
      → message_cells c (s ∷ ts) ≡ Some (length v) → Operands c.layouts fs ts s1 rest
      → LeadsToReached c a (k (length v) ts)
      → F (go v s1)) → F (on_cells st go)
  cells P [] st k go w o g h = absurd g
  cells P (O ∷ ss) [] k go w o g h = absurd o
  cells P (O ∷ ss) (Number v ∷ st) k go w o g h = h (cell.Ordinal v ∷ []) O ss st w refl o.1 g
  cells P (O ∷ ss) (Chan d ∷ st) k go w o g h = absurd o.0
  cells P (O ∷ ss) (Pointer q ∷ st) k go w o g h = absurd o.0
  cells P (O ∷ ss) (Cells cs ∷ st) k go w o g h = absurd o.0
  cells P (O ∷ ss) (Link r ∷ st) k go w o g h = absurd o.0
  cells P (O ∷ ss) (Reply r ∷ st) k go w o g h = absurd o.0
  cells P (C ∷ ss) [] k go w o g h = absurd o
  cells P (C ∷ ss) (Number v ∷ st) k go w o g h = absurd o.0
  cells P (C ∷ ss) (Chan d ∷ st) k go w o g h = h (cell.Channel d ∷ []) C ss st w refl o.1 g
  cells P (C ∷ ss) (Pointer q ∷ st) k go w o g h = absurd o.0
  cells P (C ∷ ss) (Cells cs ∷ st) k go w o g h = absurd o.0
  cells P (C ∷ ss) (Link r ∷ st) k go w o g h = absurd o.0
  cells P (C ∷ ss) (Reply r ∷ st) k go w o g h = absurd o.0
  cells P (L n ∷ ss) [] k go w o g h = absurd o
  cells P (L n ∷ ss) (Number v ∷ st) k go w o g h = absurd o.0
  cells P (L n ∷ ss) (Chan d ∷ st) k go w o g h = absurd o.0
  cells P (L n ∷ ss) (Pointer q ∷ st) k go w o g h = absurd o.0
  cells P (L n ∷ ss) (Cells cs ∷ st) k go w o g h = h cs (L n) ss st w (ap Some (sym o.0)) o.1
      (subst (λ m. LeadsToReached c a (k m ss)) (sym o.0) g)
  cells P (L n ∷ ss) (Link r ∷ st) k go w o g h = absurd o.0
  cells P (L n ∷ ss) (Reply r ∷ st) k go w o g h = absurd o.0
  cells P (A x n ∷ ss) st k go w o g h = absurd g

  pub equals : (ss : List Shape) (st : List Entry) (k : List Shape → Shaped) (go : Bool → List Entry
      → StepResult (Memory S))
      → Operands c.layouts fs ss st rest → LeadsToReached c a (take_same ss k)
      → ((v : Bool) (ts : List Shape) (s1 : List Entry) → Operands c.layouts fs ts s1 rest → LeadsToReached c a (k ts)
      → F (go v s1)) → F (on_equals st go)
  equals [] st k go o g h = absurd g
  equals (O ∷ ss) [] k go o g h = absurd o
  equals (O ∷ ss) (Number v ∷ st) k go o g h = number (λ _. Unit {0}) ss st k _ tt o.1 g
      (λ u ts s1 w o1 g1. h (same_ordinal u v) ts s1 o1 g1)
  equals (O ∷ ss) (Chan d ∷ st) k go o g h = absurd o.0
  equals (O ∷ ss) (Pointer q ∷ st) k go o g h = absurd o.0
  equals (O ∷ ss) (Cells cs ∷ st) k go o g h = absurd o.0
  equals (O ∷ ss) (Link r ∷ st) k go o g h = absurd o.0
  equals (O ∷ ss) (Reply r ∷ st) k go o g h = absurd o.0
  equals (C ∷ ss) [] k go o g h = absurd o
  equals (C ∷ ss) (Number v ∷ st) k go o g h = absurd o.0
  equals (C ∷ ss) (Chan d ∷ st) k go o g h = channel (λ _. Unit {0}) ss st k _ tt o.1 g
      (λ u ts s1 w o1 g1. h (u == d) ts s1 o1 g1)
  equals (C ∷ ss) (Pointer q ∷ st) k go o g h = absurd o.0
  equals (C ∷ ss) (Cells cs ∷ st) k go o g h = absurd o.0
  equals (C ∷ ss) (Link r ∷ st) k go o g h = absurd o.0
  equals (C ∷ ss) (Reply r ∷ st) k go o g h = absurd o.0
  equals (L n ∷ ss) st k go o g h = absurd g
  equals (A x n ∷ ss) st k go o g h = absurd g

  -- so many operands, the lowest first, with their shapes
  pub popped : (n : ℕ) (ss : List Shape) (st es : List Entry) (bs : List Shape) (k : List Shape
      → Shaped) (go : List Entry → List Entry → StepResult (Memory S)) → Operands c.layouts fs ss st rest
      → LeadsToReached c a (take_all n ss k) → Pairs c.layouts fs bs es
      → ((es1 : List Entry) (ts : List Shape) (s1 : List Entry) → Pairs c.layouts fs (rule.lowest_first n ss bs) es1
      → Operands c.layouts fs ts s1 rest → LeadsToReached c a (k ts) → F (go es1 s1)) → F (pop n st es go)
  popped zero ss st es bs k go o g pr h = h es ss st pr o g
  popped (suc n) [] st es bs k go o g pr h = absurd g
  popped (suc n) (s ∷ ss) [] es bs k go o g pr h = absurd o
  popped (suc n) (s ∷ ss) (e ∷ st) es bs k go o g pr h = popped n ss st (e ∷ es) (s ∷ bs) k go o.1 g (o.0, pr) h

  -- what is there, and what must hold
  pub is_there : {T : Type 0} (x : Option T) (t : T) (go : T → StepResult (Memory S)) → x ≡ Some t → F (go t)
      → F (on_some x go)
  is_there x t go e h = rw e h

  pub holds : (b : Bool) (o : StepResult (Memory S)) → b ≡ true → F o → F (when b o)
  holds b o e h = rw e h

  pub done : (d : MemoryResult (Memory S)) (go : Memory S → StepResult (Memory S))
      → ((m : Memory S) → d ≡ Done m → F (go m))
      → F (then_go d go)
  done (Done m) go h = h m refl
  done (Failed f) go h = fails f

  pub yields : (w : OperatorResult) (go : ℤ → StepResult (Memory S)) → ((n : ℤ) → F (go n)) → F (on_result w go)
  yields (Yields n) go h = h n
  yields (OperatorFault f) go h = fails f

  pub ordinal : (d : Cell) (go : ℤ → StepResult (Memory S)) → ((n : ℤ) → F (go n)) → F (ordinal_in d go)
  ordinal cell.Undefined go h = fails fault.F4
  ordinal (cell.Ordinal v) go h = h v
  ordinal (cell.Channel d) go h = fails fault.F4

  pub channel_of : (d : Cell) (go : ℕ → StepResult (Memory S)) → ((n : ℕ) → F (go n)) → F (channel_in d go)
  channel_of cell.Undefined go h = fails fault.F5
  channel_of (cell.Ordinal v) go h = fails fault.F5
  channel_of (cell.Channel d) go h = h d

  pub both : (b : Bool) (x y : StepResult (Memory S)) → F x → F y → F (if b then x else y)
  both true x y h k = h
  both false x y h k = k
