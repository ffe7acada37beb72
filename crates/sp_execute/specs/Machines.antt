-- None of this belongs to what the program promises: it is for contracts between crates.
-- What a run of code says without a program that the code is of: the contract of `run_code_file`. The top call
-- promises of it what the machine gives (`EndsWith`), and what the program means where `build` wrote the code.
use Rattle.std.specs.Prelude.{ℕ, List}
use Rattle.sp_base.specs.declared.limits.Limits.{Limits}
use Rattle.sp_tree.specs.Plain.{Program, Stmt}
use Rattle.sp_code.specs.declared.code.Parts.{Parts}
use Rattle.sp_code.specs.Sound.{run_of}
use Rattle.sp_kernel.specs.declared.closed.Closed.{Closed}
use Rattle.sp_runner.specs.Runs.{IsRun}
use Rattle.sp_execute.specs.Runs.{IsAbout, IsCodeOf, run_input}

-- what the run of code on an input with limits, by so many workers, says of the machine, and of each program
pub record RunsCode (code : Parts) (input : List ℕ) (limits : Limits) (workers : ℕ) (c : Closed) : Type 0 where
  -- the machine with the code comes to that end, with that output, along the journal of a legal history of the workers'
  -- calls
  pub machine : IsRun (run_of code input limits) workers c
  -- where the code is that of a program that is ready for it, its meaning is defined along the journal, with that end
  -- and output
  pub program : (p : Program) (moves shares : Stmt → List ℕ) → IsCodeOf (run_input p input limits) moves shares code
      → IsAbout (run_input p input limits) c
