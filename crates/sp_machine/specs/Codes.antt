-- None of this belongs to what the program promises: it is for contracts between crates.
-- How the state of a process is stored: the code that its `Model` rests on.
use Rattle.std.specs.Coded.{Coded}
use Rattle.sp_machine.specs.declared.state.State.{State}
use Rattle.sp_machine.specs.contracts.state.State as states

abbrev pub state_code : Coded State
state_code = states.the_row.coded
