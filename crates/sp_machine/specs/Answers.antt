-- None of this belongs to what the program promises: it is for contracts between crates.
-- What a process gets that waits at its stop. The contract of `resume` promises it; that what it gets fits is
-- required, and the kernel shows it.
use Rattle.std.specs.Prelude.{[], ◌∷◌}
use Rattle.sp_cell.specs.declared.cell.Cell.TheVariants as cell
use Rattle.sp_code.specs.Memory.{put_cell, put_cells}
use Rattle.sp_code.specs.PlainStore.{plain}
use Rattle.sp_code.specs.Sound.{CanPut}
use Rattle.sp_machine.specs.declared.state.State.{State}
use Rattle.sp_machine.specs.declared.proc.Answer.{Answer}
use Rattle.sp_machine.specs.declared.proc.Answer.TheVariants as answer

-- what goes to a process fits at its target, in a piece of its own
abbrev pub CanResume : Answer → State → Type 0
CanResume (answer.Opened c) p = CanPut p.store p.target (cell.Channel c ∷ [])
CanResume answer.Sent p = Unit {0}
CanResume (answer.Received cs) p = CanPut p.store p.target cs
CanResume answer.Joined p = Unit {0}

-- the process that got it
abbrev pub state_after_answer : Answer → State → State
state_after_answer (answer.Opened c) p = record p { store = put_cell plain p.target (cell.Channel c) p.store }
state_after_answer answer.Sent p = p
state_after_answer (answer.Received cs) p = record p { store = put_cells plain p.target cs p.store }
state_after_answer answer.Joined p = p
