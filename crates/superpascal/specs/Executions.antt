-- All of this belongs to what the program promises (docs/promise.txt).
-- A code file that is run, and what is told of it. The contracts of `executions` and `notes` promise it; the clauses on
-- `exec` are said by it.
use Rattle.std.specs.Prelude.{ℕ, List, Some, None}
use Rattle.sp_base.specs.declared.limits.Limits.{Limits}
use Rattle.sp_code.specs.declared.code.Parts.{Parts}
use Rattle.sp_code.specs.Sound.{run_of}
use Rattle.sp_execute.specs.Runs.{IsAbout, run_input}
use Rattle.sp_kernel.specs.declared.closed.Closed.{Closed}
use Rattle.sp_print.specs.OutcomeLines.{end_text}
use Rattle.sp_runner.specs.Ends.{EndsWith}
use Rattle.sp_tree.specs.Bare.{without_places}
use Rattle.sp_tree.specs.PlainChecked as c
use Rattle.superpascal.specs.declared.ending.Answer.{Answer}
use Rattle.superpascal.specs.Answers.{answer_of}
use Rattle.superpascal.specs.Runs.{HasTree, ending_of}
use Rattle.superpascal.specs.Texts.{IsCodeFile, IsFileOf}

-- the program of this text, on the input with the limits, means that end and that output along the journal
pub record IsMeantBy (text input : List ℕ) (limits : Limits) (r : Closed) : Type 0 where
  pub tree : c.Program
  pub has : HasTree text tree
  pub about : IsAbout (run_input (without_places tree) input limits) r

-- An execution of the code file of these bytes on the input with the limits: the machine with the code comes to that
-- end, with that output, along the journal. Where the bytes are what `build` writes for a text, so does its program.
pub record IsExecutionOf (bytes input : List ℕ) (limits : Limits) (r : Closed) : Type 0 where
  pub code : Parts
  pub file : IsFileOf code bytes
  pub gives : EndsWith (run_of code input limits) r.journal.entries r.end r.output
  pub meant : (text : List ℕ) → IsCodeFile text bytes → IsMeantBy text input limits r

-- the answer of `exec` with this run: its output, and the lines of its end
abbrev pub execution_answer : Closed → Answer
execution_answer r = answer_of (ending_of r.end) None (Some r) None (end_text r.end)
