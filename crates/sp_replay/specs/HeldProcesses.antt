-- None of this belongs to what the program promises: it is for contracts between crates.
-- Processes that are held, by their numbers: the contracts of `held` cite it.
use Rattle.std.specs.Prelude.{ℕ, List, [], ◌∷◌, Option, Some, None, slice_get}
use Rattle.sp_machine.specs.declared.state.State.{State as Proc}
use Rattle.sp_kernel.specs.Outputs.{output_of_process, or_rest}

-- the process in a place of a list, if there is one
abbrev pub in_place : Option (Option Proc) → Option Proc
in_place None = None
in_place (Some o) = o

-- the process that is held under a number, if there is one
abbrev pub held_at : List (Option Proc) → ℕ → Option Proc
held_at held q = in_place (slice_get held q)

-- the output in its store
abbrev pub output_in : Option Proc → Option (List ℕ)
output_in None = None
output_in (Some p) = output_of_process p

-- the first output that one of these has
abbrev pub outputs : List (Option Proc) → Option (List ℕ)
outputs [] = None
outputs (o ∷ os) = or_rest (output_in o) (outputs os)
