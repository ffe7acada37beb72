-- None of this belongs to what the program promises: it is for contracts between crates.
-- The output of a process that the kernel has: the contracts of the end look for it slot by slot. That there is one
-- such process is a law of `sp_code`.
use Rattle.std.specs.Prelude.{ℕ, List, [], ◌∷◌, Option, Some, None}
use Rattle.sp_cell.specs.Map.{output_of, output_spot}
use Rattle.std.specs.FinMap as map
use Rattle.sp_kernel.specs.declared.slot.Slot.{Slot}
use Rattle.sp_kernel.specs.declared.slot.Slot.TheVariants as slot
use Rattle.sp_machine.specs.declared.state.State.{State as Proc}

-- the output in a process's store
abbrev pub output_of_process : Proc → Option (List ℕ)
output_of_process p = output_of (map.get p.store.map output_spot)

-- the output in a slot
abbrev pub output_in_slot : Slot → Option (List ℕ)
output_in_slot (slot.Here p s) = output_of_process p
output_in_slot _ = None

-- the first that is there
abbrev pub or_rest : Option (List ℕ) → Option (List ℕ) → Option (List ℕ)
or_rest (Some bs) o = Some bs
or_rest None o = o

-- the first output that one holds
abbrev pub first_output : List Slot → Option (List ℕ)
first_output [] = None
first_output (s ∷ ss) = or_rest (output_in_slot s) (first_output ss)
