-- What a run of code and the verdict on it say of the program that the code is of (`run_of_code`, `executed`).
use Rattle.std.proofs.Common.{ℕ, List, subst}
use Rattle.sp_base.specs.declared.limits.Limits.{Limits}
use Rattle.sp_tree.specs.Plain.{Program, Stmt}
use Rattle.sp_journal.specs.Births.{occurrences}
use Rattle.sp_code.specs.declared.code.Parts.{Parts}
use Rattle.sp_code.specs.Sound.{run_of}
use Rattle.sp_race.specs.Races.{IsVerdict}
use Rattle.sp_kernel.specs.declared.closed.Closed.{Closed}
use Rattle.sp_runner.specs.Ends.{EndsWith}
use Rattle.sp_runner.specs.Runs.{IsRun}
use Rattle.sp_execute.specs.declared.execution.Ran.{Ran}
use Rattle.sp_execute.specs.Runs.{run_input, IsCodeOf, IsRunOfCode, Promises, Executes}

module _ (code : Parts) (input : List ℕ) (lim : Limits) (p : Program) (moves shares : Stmt
    → List ℕ) (is : IsCodeOf (run_input p input lim) moves shares code) where
  pub run_of_code : (workers : ℕ) (c : Closed) → IsRun (run_of code input lim) workers c
      → IsRunOfCode (run_input p input lim) moves shares c
  run_of_code workers c r = record {
    ready = is.ready;
    gives = subst (λ (x : Parts). EndsWith (run_of x input lim) c.journal.entries c.end c.output) is.emitted r.gives;
  }

  pub executed : (workers : ℕ) (e : Ran) → IsRun (run_of code input lim) workers e.closed
      → IsVerdict (occurrences e.closed.journal) e.closed.end e.verdict
      → Promises (run_input p input lim) e.closed e.verdict → Executes (run_input p input lim) workers e
  executed workers e r v h = record { about = h.0; verdict = v; alike = h.1; in_turn = r.in_turn }
