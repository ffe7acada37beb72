-- Some of this belongs to what the program promises (docs/promise.txt).
-- What a run of the code of a program says of the program. The contracts of `run_program` promise it, and the headline
-- is made of it: machine, kernel and meaning put together for one run.
use Rattle.std.specs.Prelude.{◌≡◌, ℕ, List}
use Rattle.sp_base.specs.declared.limits.Limits.{Limits}
use Rattle.sp_base.specs.declared.limits.TheConstants.{TURN_TICKS}
use Rattle.sp_tree.specs.Plain.{Program, Stmt}
use Rattle.sp_journal.specs.declared.outcome.Verdict.{Verdict}
use Rattle.sp_journal.specs.declared.outcome.Verdict.TheVariants as verdicts
use Rattle.sp_journal.specs.Births.{IsNameable, occurrences}
use Rattle.sp_journal.specs.Queue.{IsFirstInFirstOut}
use Rattle.sp_meaning.specs.LocalWork.{RunInput}
use Rattle.sp_meaning.specs.Runs.{StateOf, output_of}
use Rattle.sp_meaning.specs.Along.{IsAlong}
use Rattle.sp_meaning.specs.Ends.{EndIs}
use Rattle.sp_code.specs.declared.code.Parts.{Parts}
use Rattle.sp_code.specs.TreeCode.{program_code}
use Rattle.sp_race.specs.Races.{IsVerdict}
use Rattle.sp_race.specs.Runs.{AllEndAlike}
use Rattle.sp_kernel.specs.declared.closed.Closed.{Closed}
use Rattle.sp_link.specs.Premises.{IsReady, run_by}
use Rattle.sp_runner.specs.Ends.{EndsWith}
use Rattle.sp_execute.specs.declared.execution.Ran.{Ran}

-- a program on an input with limits
abbrev pub run_input : Program → List ℕ → Limits → RunInput
run_input p input lim = record { program = p; input = input; limits = lim }

-- the code is that of a program that is ready for it, where the forks take over and share these variables
pub record IsCodeOf (g : RunInput) (moves shares : Stmt → List ℕ) (code : Parts) : Type 0 where
  pub ready : IsReady g moves shares
  pub emitted : code ≡ program_code g.program moves shares

-- the machine with the code of a program gives that end and that output along that journal
pub record IsRunOfCode (g : RunInput) (moves shares : Stmt → List ℕ) (c : Closed) : Type 0 where
  pub ready : IsReady g moves shares
  pub gives : EndsWith (run_by g moves shares TURN_TICKS) c.journal.entries c.end c.output

-- along the journal, which gives names, the meaning of the program is defined; the end and the output are those of its
-- state there
pub record IsAbout (g : RunInput) (c : Closed) : Type 0 where
  pub names : IsNameable c.journal
  pub steps : ℕ
  pub state : StateOf g
  pub along : IsAlong g TURN_TICKS (occurrences c.journal) steps state
  pub output : c.output ≡ output_of g state
  pub end : EndIs g state c.end

-- along the journal the program's run has so many steps and that state, and where the verdict is `ordered`, every
-- lawful schedule ends alike
abbrev pub Promises : RunInput → Closed → Verdict → Type 0
Promises g c v = (a : IsAbout g c) × (v ≡ verdicts.Ordered → AllEndAlike g a.steps a.state)

-- a run of the program, with its exact verdict; where that is `ordered`, every lawful schedule ends alike, after as
-- many steps and in the same state
pub record Executes (g : RunInput) (workers : ℕ) (e : Ran) : Type 0 where
  pub about : IsAbout g e.closed
  pub verdict : IsVerdict (occurrences e.closed.journal) e.closed.end e.verdict
  pub alike : e.verdict ≡ verdicts.Ordered → AllEndAlike g about.steps about.state
  pub in_turn : workers ≡ 1 → IsFirstInFirstOut e.closed.journal
