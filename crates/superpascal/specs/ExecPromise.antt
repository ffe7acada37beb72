-- All of this belongs to what the program promises (docs/promise.txt).
-- What the top call promises of `exec`: a code file is run only where its code breaks no rule of code files, and then
-- its output and its end are those of the machine along the run's journal; where `build` wrote the file for a text,
-- they are what the text's program means along it. Else the first thing that is wrong with the file is named, and
-- status 10 comes of nothing else.
use Rattle.std.specs.Prelude.{◌≡◌, ◌⊎◌, ℕ, ◌<◌, ◌≤◌, List, Some, None, IfSome, length}
use Rattle.sp_code.specs.declared.code.Parts.{Parts}
use Rattle.sp_codefile.specs.CodeText.{IsFirstBad, IsText, IsTextOf}
use Rattle.sp_codefile.specs.VerifyAnswers.{rule_of}
use Rattle.sp_codefile.specs.declared.verifier.VRule.{VRule}
use Rattle.sp_kernel.specs.declared.closed.Closed.{Closed}
use Rattle.sp_outside.specs.Visible.{IsAtEnd}
use Rattle.sp_print.specs.OutcomeLines.{end_text}
use Rattle.sp_verify_rules.specs.Verdict.{IsRejected}
use Rattle.sp_words.specs.Words.{command_of}
use Rattle.sp_words.specs.declared.requests.ExecRequest.{ExecRequest}
use Rattle.sp_words.specs.declared.command.Command.TheVariants as command
use Rattle.superpascal.specs.declared.ending.Ending.TheVariants as e
use Rattle.superpascal.specs.Answers.{status_of}
use Rattle.superpascal.specs.Calls.{Call, IsAnswered, IsFinal, IsOutside, OfExecution, OfExecutionInput, SaysEnding}
use Rattle.superpascal.specs.Causes.{IsKnownAs, IsTooLong}
use Rattle.superpascal.specs.Executions.{IsExecutionOf}
use Rattle.superpascal.specs.Runs.{ending_of}
use Rattle.superpascal.specs.Texts.{IsSoundFile}
use Rattle.superpascal.specs.WrittenParts.{AreWritten}

-- the bytes are more than are loaded, or the text of no code, or that of code which breaks a rule
abbrev pub IsFaultyFile : List ℕ → Type 0
IsFaultyFile bytes =
    (67108864 < length bytes)
    ⊎ (((n : ℕ) × IsFirstBad n bytes)
    ⊎ ((code : Parts) × (v : VRule) × (i : ℕ) × IsTextOf code bytes × IsRejected code (rule_of v) i))

-- the run that is given back is one of the code file and the input that the words ask for, of which nothing is left
abbrev pub IsExecutionOfWords : Call → Closed → Type 0
IsExecutionOfWords c r = (b : ExecRequest) × (command_of c.words ≡ Some (command.Exec b)) × IsAtEnd c.source.left'
    × (bytes input : List ℕ) × IsKnownAs (c.files.held b.file) bytes × IsKnownAs c.source.left input
    × IsExecutionOf bytes input b.limits r

pub record Executing (c : Call) : Type 0 where
  -- a run is given back of `exec` alone, and wherever the status that was due, also one that a failed write displaced,
  -- is 0, 3 or 4
  pub given : (b : ExecRequest) → command_of c.words ≡ Some (command.Exec b) → (a : IsAnswered c)
      → IsFinal (status_of a.answer.ending) → (r : Closed) × (c.outcome.executed ≡ Some r)
  pub runs : (r : Closed) → c.outcome.executed ≡ Some r → IsExecutionOfWords c r
  -- that status is the one of its end
  pub due : (r : Closed) → c.outcome.executed ≡ Some r → (a : IsAnswered c)
      → (status_of a.answer.ending ≡ status_of (ending_of r.end)) × IsFinal (status_of a.answer.ending)
  pub by_end : (r : Closed) → c.outcome.executed ≡ Some r → (c.outcome.status ≡ status_of (ending_of r.end))
      ⊎ (c.outcome.status ≡ 6)
  -- its end and its output are those of the machine with the code of the file along its journal; and where the file
  -- holds what `build` writes for a text, they are what the text's program means along it (`IsExecutionOf`)
  pub machine : OfExecutionInput c (λ b bytes input. (r : Closed) → c.outcome.executed ≡ Some r
      → IsExecutionOf bytes input b.limits r)
  -- its output was written, and then the lines of its end; with status 6 a first part of each
  pub written : (r : Closed) → c.outcome.executed ≡ Some r → AreWritten c r.output (end_text r.end)
  -- a file whose code breaks no rule is run
  pub accepted : OfExecutionInput c (λ b bytes input. IsSoundFile bytes → length input ≤ 16777216
      → IsFinal c.outcome.status ⊎ IsOutside c.outcome.status)
  -- of one whose code breaks a rule, the first broken rule is named, and the least instruction at which it is broken
  pub rejected : OfExecution c (λ b bytes. length bytes ≤ 67108864 → (code : Parts) → IsTextOf code bytes
      → (v : VRule) (i : ℕ) → IsRejected code (rule_of v) i → SaysEnding c (e.Rejected v i))
  -- of bytes that are the text of no code, the first line is named with which the lines begin no code's text
  pub bad : OfExecution c (λ b bytes. length bytes ≤ 67108864 → (IsText bytes → ⊥)
      → ((n : ℕ) × IsFirstBad n bytes × SaysEnding c (e.BadCode n)) ⊎ IsOutside c.outcome.status)
  -- a file that is too long is not read
  pub long : OfExecution c (λ b bytes. 67108864 < length bytes → SaysEnding c e.LongFile)
  -- 10: the file is at fault
  pub only : (b : ExecRequest) → command_of c.words ≡ Some (command.Exec b) → c.outcome.status ≡ 10
      → IfSome (c.files.held b.file) IsFaultyFile
  -- 1: no rule of texts is broken; 7: the input of a file that is run is too long; 8: no run is given back
  pub no_refusal : OfExecution c (λ b bytes. c.outcome.status ≡ 1 → ⊥)
  pub long_input : OfExecutionInput c (λ b bytes input. IsSoundFile bytes → IsTooLong input
      → IsOutside c.outcome.status)
  pub memory : c.outcome.status ≡ 8 → c.outcome.executed ≡ None
