-- All of this belongs to what the program promises (docs/promise.txt).
-- The headline of the program, for its commands `run` and `witness`.
--
-- For all program bytes, input and worker counts: the text is refused exactly where a written rule is broken; in no
-- schedule does a process write what a parallel one uses; what a run prints and how it ends is what the source meaning
-- gives along its journal; and a run that is reported `ordered` ends, in every schedule, with that output and that end,
-- after equally many steps.
--
-- The bytes of the program and the input are those that the library and the source tell when the call begins. Where
-- they are not told, as by files and streams of the system, nothing is said of contents.
use Rattle.std.specs.Prelude.{◌≡◌, ◌≢◌, ◌⊎◌, ℕ, List, Some}
use Rattle.sp_base.specs.declared.halt.Refusal.{Refusal}
use Rattle.sp_execute.specs.declared.execution.Ran.{Ran}
use Rattle.sp_execute.specs.Runs.{Executes, run_input}
use Rattle.sp_front.specs.Checks.{IsProgramOf}
use Rattle.sp_tree.specs.Plain.{Program}
use Rattle.sp_words.specs.declared.requests.RunRequest.{RunRequest}
use Rattle.superpascal.specs.declared.ending.Ending.TheVariants as e
use Rattle.superpascal.specs.Answers.{status_of}
use Rattle.superpascal.specs.Calls.{WroteAll, Call, OfInput, OfRun, WrotePart, SaysEnding}
use Rattle.superpascal.specs.Runs.{ending_of, told_output}
use Rattle.superpascal.specs.Texts.{FirstBroken, IsDisjointText}
use Rattle.sp_words.specs.declared.requests.Telling.{Telling}

-- the status tells the end of the run, and its output, or its witness, was written; with status 6 a first part of it
pub record Prints (c : Call) (telling : Telling) (r : Ran) : Type 0 where
  pub status : (c.outcome.status ≡ status_of (ending_of r.closed.end)) ⊎ (c.outcome.status ≡ 6)
  pub whole : c.outcome.status ≢ 6 → WroteAll c.output (told_output telling r)
  pub part : WrotePart c.output (told_output telling r)

-- the run is one of the program of the text: along its journal the meaning of the program on the input with the limits
-- is defined, with its output and its end; its verdict is the exact one; where that is `ordered`, every lawful schedule
-- ends alike
abbrev pub IsMeant : RunRequest → List ℕ → List ℕ → Ran → Type 0
IsMeant a text input r = (p : Program) × IsProgramOf text p × Executes (run_input p input a.limits) a.workers r

pub record Headline (c : Call) : Type 0 where
  -- the text is refused exactly where a written rule is broken
  pub refused : OfRun c (λ a text. (r : Refusal) → FirstBroken text r → SaysEnding c (e.Refused r))
  pub no_other_refused : OfRun c (λ a text. c.outcome.status ≡ 1 → (r : Refusal) × FirstBroken text r)
  -- in no schedule does a process write what a parallel one uses
  pub disjoint : OfRun c (λ a text. (r : Ran) → c.outcome.ran ≡ Some r → IsDisjointText text)
  -- what a run prints and how it ends is what the meaning gives along its journal; and what `ordered` promises
  pub meant : OfInput c (λ a text input. (r : Ran) → c.outcome.ran ≡ Some r → IsMeant a text input r
      × Prints c a.telling r)
