-- All of this belongs to what the program promises (docs/promise.txt).
-- When each status comes, and what is given back. The contract of the top call promises it: each status exactly by its
-- cause, so that a caller can rest on the number alone.
use Rattle.std.specs.Prelude.{◌≡◌, ◌⊎◌, ℕ, ◌≤◌, List, [], Some, None, IfSome, length}
use Rattle.sp_base.specs.declared.halt.Refusal.{Refusal}
use Rattle.sp_execute.specs.declared.execution.Ran.{Ran}
use Rattle.sp_gen.specs.GeneratedText.{generated_text}
use Rattle.sp_outside.specs.Counts.{Rose}
use Rattle.sp_outside.specs.Visible.{IsAtEnd}
use Rattle.sp_words.specs.Ranges.{default_limits}
use Rattle.sp_words.specs.Words.{command_of}
use Rattle.sp_words.specs.declared.command.Command.{Command}
use Rattle.sp_words.specs.declared.command.Command.TheVariants as command
use Rattle.sp_words.specs.declared.requests.ExecRequest.{ExecRequest}
use Rattle.sp_words.specs.declared.requests.RunRequest.{RunRequest}
use Rattle.superpascal.specs.declared.ending.Ending.TheVariants as e
use Rattle.superpascal.specs.Answers.{status_of}
use Rattle.superpascal.specs.Calls.{Call, Exactly, Failed, IsFinal, IsOutside, IsUnwritten, OfReplay, OfRun, OfText}
use Rattle.superpascal.specs.Calls.{SaysEnding}
use Rattle.superpascal.specs.Causes.{IsKnownAs, IsTooLong, IsUntouched}
use Rattle.superpascal.specs.Runs.{IsRunOf, ending_of}
use Rattle.superpascal.specs.Texts.{FirstBrokenFor, CanRead, HasLongCode, IsDisjointText, IsJournalText, AcceptedFor}
use Rattle.superpascal.specs.Texts.{IsAcceptedText}
use Rattle.superpascal.specs.Texts.{LoadsText, Makes, asks_all, asks_build, asks_replay, asks_run, asks_text, text_of}

-- the library failed under a name that the command loads, or the source failed where the command reads it
abbrev pub ReadsFail : Call → Type 0
ReadsFail c = (d : Command) × (command_of c.words ≡ Some d)
    × (((name : List ℕ) × LoadsText c.files.held d name × Rose (c.files.before name) (c.files.after name))
    ⊎ (CanRead c.files.held d × Rose c.source.before c.source.after))

-- the words ask for a command that reads the input, and it is too long
abbrev pub InputIsTooLong : Call → Type 0
InputIsTooLong c = (d : Command) × (command_of c.words ≡ Some d) × CanRead c.files.held d
    × IfSome c.source.left IsTooLong

-- the run that is given back is one of the text and the input that the words ask for, of which nothing is left, or of a
-- generated text
abbrev pub IsRunOfWords : Call → Ran → Type 0
IsRunOfWords c r =
    ((a : RunRequest) × (command_of c.words ≡ Some (command.Run a)) × IsAtEnd c.source.left'
    × (text input : List ℕ) × IsKnownAs (c.files.held a.file) text × IsKnownAs c.source.left input
    × IsRunOf text input a.workers a.limits r)
    ⊎ ((size workers : ℕ) × (command_of c.words ≡ Some (command.Gen size workers))
    × IsRunOf (generated_text size) [] workers default_limits r)

-- nothing outside fails in the call, and the input, where the command reads it, is told and no longer than is read
pub record OutsideWorks (c : Call) (d : Command) : Type 0 where
  pub library : (name : List ℕ) → LoadsText c.files.held d name → Rose (c.files.before name) (c.files.after name) → ⊥
  pub source : Rose c.source.before c.source.after → ⊥
  pub input : CanRead c.files.held d → (input : List ℕ) × (c.source.left ≡ Some input) × (length input ≤ 16777216)
  pub output : Failed c.output → ⊥
  pub notes : Failed c.notes → ⊥

-- the status is a final one, or memory was wanting, or the journal or the code of the text is at fault
abbrev pub IsRegularStatus : Command → ℕ → Type 0
IsRegularStatus d status = IsFinal status
    ⊎ ((status ≡ 8) ⊎ ((asks_replay d × (status ≡ 9)) ⊎ (asks_build d × (status ≡ 10))))

pub record Statuses (c : Call) : Type 0 where
  -- 2: the words are refused
  pub bad_words : Exactly c.outcome.status 2 (command_of c.words ≡ None)
  -- 1: the text breaks a rule of the command
  pub refused : OfText c (λ d text. (r : Refusal) → FirstBrokenFor d text r → SaysEnding c (e.Refused r))
  pub no_other_refused : OfText c (λ d text. c.outcome.status ≡ 1 → (r : Refusal) × FirstBrokenFor d text r)
  -- 0 of a command that answers from the text alone: something is made of it
  pub made : OfText c (λ d text. asks_text d → Exactly c.outcome.status 0 ((out line : List ℕ) × Makes d text out line))
  -- 0, 3, 4 of a run: by its end
  pub by_end : (r : Ran) → c.outcome.ran ≡ Some r → (c.outcome.status ≡ status_of (ending_of r.closed.end))
      ⊎ (c.outcome.status ≡ 6)
  pub ran : (d : Command) → command_of c.words ≡ Some d → asks_run d → IsFinal c.outcome.status → (r : Ran)
      × (c.outcome.ran ≡ Some r)
  pub runs : (r : Ran) → c.outcome.ran ≡ Some r → IsRunOfWords c r
  -- 5, 6: the outside failed
  pub read_fault : c.outcome.status ≡ 5 → ReadsFail c
  pub write_fault : c.outcome.status ≡ 6 → Failed c.output ⊎ Failed c.notes
  -- 7: the input is too long, where what is loaded before it is right
  pub too_long : c.outcome.status ≡ 7 → InputIsTooLong c
  pub long_refused : OfRun c (λ a text. IsAcceptedText text → (input : List ℕ) → c.source.left ≡ Some input
      → IsTooLong input → IsOutside c.outcome.status)
  pub long_unfollowed : OfReplay c (λ b text bytes. IsAcceptedText text → IsJournalText bytes → (input : List ℕ)
      → c.source.left ≡ Some input → IsTooLong input → IsOutside c.outcome.status)
  -- 8: nothing is put to the output, and no run is given back
  pub memory : c.outcome.status ≡ 8 → IsUnwritten c.output × (c.outcome.ran ≡ None)
  -- 10: the code of the text is too long for a file, or the code file is at fault (`Executing`)
  pub long_code : OfText c (λ d text. asks_build d → Exactly c.outcome.status 10 (HasLongCode text))
  pub no_other_long : c.outcome.status ≡ 10 → (d : Command) × (command_of c.words ≡ Some d)
      × ((asks_build d × IfSome (text_of c.files.held d) HasLongCode) ⊎ ((b : ExecRequest) × (d ≡ command.Exec b)))
  -- nothing else: where the words ask for a command that refuses the text, or the code file, for no rule, and nothing
  -- outside fails
  pub complete : OfText c (λ d text. AcceptedFor d text → OutsideWorks c d → IsRegularStatus d c.outcome.status)
  -- the source is read by `run`, `witness`, `replay`, `trace`, `where` and `exec` alone, and only where what they load
  -- before is right
  pub source : IsUntouched c.source ⊎ ((d : Command) × (command_of c.words ≡ Some d) × CanRead c.files.held d)
  -- the program of a text that a command goes through, other than `sets` and `format`, is disjoint
  pub disjoint : OfText c (λ d text. asks_all d → IsFinal c.outcome.status → IsDisjointText text)
