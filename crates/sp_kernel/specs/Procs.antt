-- None of this belongs to what the program promises: it is for contracts between crates.
-- A process in memory as the definitions see it, and the turn that was handed in: the words of `sp_machine`, passed on,
-- with those that the kernel's contracts need besides.
use Rattle.std.specs.Prelude.{◌≡◌, ℕ, List, Option}
use Rattle.std.specs.Option.{option_map}
use Rattle.sp_cell.specs.declared.cell.Cell.{Cell}
use Rattle.sp_cell.specs.Map.{Plain}
use Rattle.sp_code.specs.Turns.{Turn}
use Rattle.sp_code.specs.Memory.{Memory}
use Rattle.sp_code.specs.System.{process_at_entry}
use Rattle.sp_code.specs.Sound.{CanPut}
pub use Rattle.sp_machine.specs.Procs.{config_of, target_of, turn_by}
use Rattle.sp_machine.specs.declared.state.State.{State as Proc}
use Rattle.sp_kernel.specs.declared.handed.Handed.{Handed}

-- the cells fit at the target
abbrev pub CanTake : Proc → List Cell → Type 0
CanTake p cs = CanPut p.store p.target cs

-- the number of a process, if there is one
abbrev pub number_in : Option Proc → Option ℕ
number_in proc = option_map (λ p. p.number) proc

-- the turn of what is handed in
abbrev pub turn_of : Handed → Turn (Memory Plain)
turn_of h = turn_by h.stop h.proc

-- from here on its ticks count for the next pause
abbrev pub EntersAs : Proc → Proc → Type 0
EntersAs p q = (config_of q ≡ process_at_entry (config_of p)) × (q.number ≡ p.number) × (q.target ≡ p.target)
    × (q.input.value ≡ p.input.value)
