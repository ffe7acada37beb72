-- All of this belongs to what the program promises (docs/promise.txt).
-- A run of the program of a text (`IsRunOf`), and what is told of it. The contracts of `runs` and `notes` promise it;
-- the headline and the written texts are said by it.
use Rattle.std.specs.Option.{option_map_or}
use Rattle.std.specs.Prelude.{ℕ, ◌≤◌, Bool, true, false, if◌then◌else◌, List, [], ◌++◌, Option, Some, None, codes}
use Rattle.std.specs.Prelude.{decimal, length}
use Rattle.sp_base.specs.declared.limits.Limits.{Limits}
use Rattle.sp_base.specs.declared.limits.Show.{Show}
use Rattle.sp_base.specs.declared.limits.Show.TheVariants as show
use Rattle.sp_code.specs.Places.{tree_length}
use Rattle.sp_execute.specs.declared.execution.Ran.{Ran}
use Rattle.sp_execute.specs.Runs.{Executes, run_input}
use Rattle.sp_execute.specs.Witnesses.{ShowsRace, witness_of}
use Rattle.sp_front.specs.Compiles.{IsAccepted}
use Rattle.sp_journal.specs.declared.entry.Entry.{Entry}
use Rattle.sp_journal.specs.declared.outcome.End.{End}
use Rattle.sp_journal.specs.declared.outcome.End.TheVariants as ends
use Rattle.sp_journal.specs.declared.version.Version.TheVariants as version
use Rattle.sp_journal.specs.Texts.{journal_text}
use Rattle.sp_print.specs.OutcomeLines.{end_text, verdict_text}
use Rattle.sp_tree.specs.Bare.{without_places}
use Rattle.sp_tree.specs.PlainChecked as c
use Rattle.superpascal.specs.declared.ending.Ending.{Ending}
use Rattle.superpascal.specs.declared.ending.Ending.TheVariants as e
use Rattle.superpascal.specs.declared.ending.Answer.{Answer}
use Rattle.sp_words.specs.declared.requests.Telling.{Telling}
use Rattle.sp_words.specs.declared.requests.Telling.TheVariants as told
use Rattle.superpascal.specs.Answers.{answer_of}

-- the text has this tree, which breaks no rule, and its code is no longer than code may be
pub record HasTree (text : List ℕ) (tree : c.Program) : Type 0 where
  pub accepted : IsAccepted text tree
  pub short : tree_length (without_places tree) ≤ 1048576

-- A run of the text's program on the input with the limits, by so many workers: along the journal the meaning of the
-- program is defined, with that output and that end; the verdict is the exact one, with what that promises; and the
-- witness of its race shows it.
pub record IsRunOf (text input : List ℕ) (workers : ℕ) (limits : Limits) (r : Ran) : Type 0 where
  pub tree : c.Program
  pub has : HasTree text tree
  pub meant : Executes (run_input (without_places tree) input limits) workers r
  pub shown : ShowsRace (run_input (without_places tree) input limits) r

-- the end of a run is told by this ending of the call
abbrev pub ending_of : End → Ending
ending_of ends.Done = e.Done
ending_of (ends.Deadlock ws) = e.Deadlock
ending_of (ends.Fault p f) = e.Fault
ending_of ends.Memory = e.OutOfMemory

-- ---- texts

-- the text of the chosen reports over entries
abbrev pub Reports : Type 0
Reports = Show → List Entry → List ℕ

abbrev pub is_journal : Show → Bool
is_journal show.Journal = true
is_journal _ = false

-- the lines of the end and of the verdict
abbrev pub end_lines : Ran → List ℕ
end_lines r = end_text r.closed.end ++ verdict_text r.verdict

-- the journal alone, or the end, the verdict and the reports
abbrev pub run_notes : Reports → Show → Ran → List ℕ
run_notes reports s r = if is_journal s then journal_text version.Two r.closed.journal else end_lines r
    ++ reports s r.closed.journal.entries

-- the text of the witness of the run's race; where there is no race, nothing
abbrev pub witness_text : Ran → List ℕ
witness_text r = option_map_or (journal_text version.Two) (witness_of r.verdict r.closed.journal) []

-- the output of a run that is told so: its own, or the text of its witness
abbrev pub told_output : Telling → Ran → List ℕ
told_output (told.Reports show) r = r.closed.output
told_output told.Witness r = witness_text r

-- the notes of a run that is told so
abbrev pub told_notes : Reports → Telling → Ran → List ℕ
told_notes reports (told.Reports show) r = run_notes reports show r
told_notes reports told.Witness r = end_lines r

-- the output of `gen`
abbrev pub generated_output : ℕ → Ran → List ℕ
generated_output size r =
    codes "size " ++ decimal size ++ codes "\noutput " ++ r.closed.output
    ++ codes "\nentries " ++ decimal (length r.closed.journal.entries) ++ codes "\n" ++ end_lines r

-- ---- answers

-- the text that stands for the output of a run that is told so
abbrev pub output_instead : Telling → Ran → Option (List ℕ)
output_instead (told.Reports show) r = None
output_instead told.Witness r = Some (witness_text r)

-- the answer of `run` or `witness` with this run
abbrev pub run_answer : Reports → Telling → Ran → Answer
run_answer reports telling r =
    answer_of (ending_of r.closed.end) (Some r) None (output_instead telling r) (told_notes reports telling r)

-- the answer of `gen` with this run
abbrev pub generated_answer : ℕ → Ran → Answer
generated_answer size r = answer_of (ending_of r.closed.end) (Some r) None (Some (generated_output size r)) []
