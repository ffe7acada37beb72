-- Some of this belongs to what the program promises (docs/promise.txt).
-- The variables that one instruction stores and loads, by the shapes of its operands, and what it needs of the memory.
use Rattle.std.specs.Prelude.{◌≡◌, ℕ, suc, ◌≤◌, List, [], ◌∷◌, ◌++◌, Option, Some, None, true, length, nat_le}
use Rattle.std.specs.Prelude.{IsSome}
use Rattle.sp_tree.specs.Interference.{IsMember}
use Rattle.sp_cell.specs.declared.spot.Address.{Address}
use Rattle.sp_code.specs.declared.instr.Instr.{Instr}
use Rattle.sp_code.specs.declared.instr.Instr.TheVariants as i
use Rattle.sp_code.specs.declared.code.Layout.{Layout}
use Rattle.sp_code.specs.declared.code.Parts.{Parts}
use Rattle.sp_code.specs.Machine.{layout_of}
use Rattle.sp_code.specs.Memory.{CodeRun, Stores, Memory, memory}
use Rattle.sp_verify_rules.specs.Areas.{Area, Body, VariableInfo, on_option, variable_at}
use Rattle.sp_verify_rules.specs.Shapes.{Shape, A, below_topmost}
use Rattle.sp_verify_rules.specs.Extents.{HasWhole}

-- the variable of the topmost operand, if it is an address
abbrev pub topmost_variable : List Shape → List ℕ
topmost_variable (A x n ∷ ss) = x ∷ []
topmost_variable _ = []

-- the variables of the addresses among the n topmost
abbrev pub addresses : ℕ → List Shape → List ℕ
addresses (suc n) (A x k ∷ ss) = x ∷ addresses n ss
addresses (suc n) (s ∷ ss) = addresses n ss
addresses _ _ = []

abbrev pub number_list : Option VariableInfo → List ℕ
number_list None = []
number_list (Some f) = f.number ∷ []

module _ (c : Parts) (a : Area) where
  -- what it stores: an assignment's target, what is read, opened, received or passed by reference, a loop's variable;
  -- reading stores variable 0, writing variable 1
  abbrev pub stored_by : Option Instr → List Shape → List ℕ
  stored_by (Some i.Store) ss = topmost_variable (below_topmost ss)
  stored_by (Some (i.Copy k)) ss = topmost_variable (below_topmost ss)
  stored_by (Some (i.Forup var to)) ss = number_list (variable_at c a 0 var)
  stored_by (Some (i.Fordown var to)) ss = number_list (variable_at c a 0 var)
  stored_by (Some (i.Nextup var to)) ss = number_list (variable_at c a 0 var)
  stored_by (Some (i.Nextdown var to)) ss = number_list (variable_at c a 0 var)
  stored_by (Some (i.Call b up)) ss = on_option [] (layout_of c.layouts b) (λ l. addresses (length l.formals) ss)
  stored_by (Some i.ReadInt) ss = 0 ∷ topmost_variable ss
  stored_by (Some i.ReadChar) ss = 0 ∷ topmost_variable ss
  stored_by (Some i.Readln) ss = 0 ∷ []
  stored_by (Some i.WriteInt) ss = 1 ∷ []
  stored_by (Some i.WriteChar) ss = 1 ∷ []
  stored_by (Some i.WriteBool) ss = 1 ∷ []
  stored_by (Some (i.WriteText k)) ss = 1 ∷ []
  stored_by (Some i.WritewInt) ss = 1 ∷ []
  stored_by (Some i.WritewChar) ss = 1 ∷ []
  stored_by (Some i.WritewBool) ss = 1 ∷ []
  stored_by (Some (i.WritewText k)) ss = 1 ∷ []
  stored_by (Some i.Writeln) ss = 1 ∷ []
  stored_by (Some i.Open) ss = topmost_variable ss
  stored_by (Some (i.Receive k)) ss = topmost_variable ss
  stored_by _ ss = []

  -- what it loads
  abbrev pub loaded_by : Option Instr → List Shape → List ℕ
  loaded_by (Some i.Load) ss = topmost_variable ss
  loaded_by (Some i.Loadc) ss = topmost_variable ss
  loaded_by (Some (i.Pack k)) ss = topmost_variable ss
  loaded_by (Some (i.Copy k)) ss = topmost_variable ss
  loaded_by (Some i.Eof) ss = 0 ∷ []
  loaded_by (Some i.Eoln) ss = 0 ∷ []
  loaded_by _ ss = []

  -- both
  abbrev pub touched_by : Option Instr → List Shape → List ℕ
  touched_by o ss = stored_by o ss ++ loaded_by o ss

-- where a block's result is, if it has one, there is a cell
abbrev pub HasAnswer : {S : Type 0} → Stores S → CodeRun → Memory S → Option Address → Type 0
HasAnswer stores g n None = Unit {0}
HasAnswer stores g n (Some p) = (memory stores g).has p 1 n ≡ true

-- what an instruction needs of the memory: the variables that it touches are held whole; the input has its position,
-- and the output is there; a new frame has a number; the newest frame may go
pub record MemorySuffices {S : Type 0} (stores : Stores S) (g : CodeRun) (a : Area) (o : Option Instr) (ss : List Shape)
    (n : Memory S) : Type 0 where
  pub whole : (x : ℕ) → IsMember x (touched_by g.code a o ss) → 2 ≤ x → HasWhole stores g.code.layouts n x
  pub input : IsMember 0 (touched_by g.code a o ss) → IsSome ((memory stores g).left n)
  pub output : IsMember 1 (touched_by g.code a o ss) → (memory stores g).has_output n ≡ true
  pub calls : (b up : ℕ) → o ≡ Some (i.Call b up) → nat_le (stores.next_frame n.store) 18446744073709551615 ≡ true
  pub returns : o ≡ Some i.Return → (memory stores g).may_close n ≡ true
  pub answers : o ≡ Some i.Return → (b : ℕ) (l : Layout) → a ≡ Body b → layout_of g.code.layouts b ≡ Some l
      → l.answer ≡ true → HasAnswer stores g n ((memory stores g).answer n)
