-- All of this belongs to what the program promises (docs/promise.txt).
-- What a call has written, by its status. The contract of the top call promises it: all of it, a first part where a
-- sink failed, or the line of the status.
use Rattle.std.specs.Prelude.{◌≡◌, ◌≢◌, ℕ, List, [], Some, false}
use Rattle.sp_execute.specs.declared.execution.Ran.{Ran}
use Rattle.sp_words.specs.Words.{command_of}
use Rattle.sp_words.specs.declared.command.Command.TheVariants as command
use Rattle.sp_words.specs.declared.requests.RunRequest.{RunRequest}
use Rattle.superpascal.specs.declared.ending.Ending.{Ending}
use Rattle.superpascal.specs.Answers.{has_output, line_of, status_of}
use Rattle.superpascal.specs.Calls.{WroteAll, Call, IsUnwritten, OfText, WrotePart}
use Rattle.superpascal.specs.Runs.{generated_output, told_notes, told_output}
use Rattle.superpascal.specs.Texts.{Makes}

-- the output and the notes were written whole; with status 6 a first part of each
pub record AreWritten (c : Call) (output notes : List ℕ) : Type 0 where
  pub whole : c.outcome.status ≢ 6 → WroteAll c.output output × WroteAll c.notes notes
  pub part_of_output : WrotePart c.output output
  pub part_of_notes : WrotePart c.notes notes

-- otherwise the line of the status
abbrev pub WritesLine : Call → Type 0
WritesLine c = (ending : Ending) × (c.outcome.status ≡ status_of ending) × (has_output ending ≡ false)
    × WroteAll c.notes (line_of ending)

pub record Writing (c : Call) : Type 0 where
  -- what a command makes of the text alone
  pub made : OfText c (λ d text. (out line : List ℕ) → Makes d text out line → c.outcome.status ≡ 0
      → WroteAll c.output out × WroteAll c.notes line)
  -- the output of a run, or the witness of its race; and its end, verdict and reports, or its journal
  pub ran : (a : RunRequest) → command_of c.words ≡ Some (command.Run a) → (r : Ran) → c.outcome.ran ≡ Some r
      → AreWritten c (told_output a.telling r) (told_notes c.reports a.telling r)
  -- those of `gen`
  pub generated : (size workers : ℕ) → command_of c.words ≡ Some (command.Gen size workers) → (r : Ran)
      → c.outcome.ran ≡ Some r → AreWritten c (generated_output size r) []
  -- else a line, and no output
  pub line : c.outcome.status ≢ 0 → c.outcome.status ≢ 3 → c.outcome.status ≢ 4 → c.outcome.status ≢ 6 → WritesLine c
      × IsUnwritten c.output
