-- None of this belongs to what the program promises: it is for contracts between crates.
-- Children that stand in their slots: the contract of the loop that puts them there.
use Rattle.std.specs.Prelude.{◌≡◌, ℕ, ◌+◌, ◌<◌, ◌≤◌, List, length, Some, slice_get}
use Rattle.sp_machine.specs.declared.state.State.{State as Proc}
use Rattle.sp_kernel.specs.declared.slot.Slot.{Slot}
use Rattle.sp_kernel.specs.declared.slot.Slot.TheVariants as slot
use Rattle.sp_kernel.specs.declared.slot.State.TheVariants as st

-- each of these is ready in its slot, the first at a place; the slots around them are as before
pub record Seated (xs : List Slot) (first : ℕ) (children : List Proc) (ys : List Slot) : Type 0 where
  pub length_is : length ys ≡ length xs
  pub before : (q : ℕ) → q < first → slice_get ys q ≡ slice_get xs q
  pub after : (q : ℕ) → first + length children ≤ q → slice_get ys q ≡ slice_get xs q
  pub seats : (k : ℕ) (c : Proc) → slice_get children k ≡ Some c
      → slice_get ys (first + k) ≡ Some (slot.Here c st.Ready)
