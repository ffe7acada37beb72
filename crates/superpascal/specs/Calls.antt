-- All of this belongs to what the program promises (docs/promise.txt).
-- A call of the program (`Call`): what it is given, what it leaves, and how its answer is written (`IsAnswered`). The
-- contract of the top call speaks of this record, so that its clauses need no name of a stream or a library.
use Rattle.std.specs.Prelude.{◌≡◌, ◌≢◌, ◌⊎◌, ℕ, ◌<◌, ◌≤◌, List, true, false, length, take, Option, Some}
use Rattle.sp_outside.specs.Counts.{Rose}
use Rattle.sp_outside.specs.Visible.{Grows}
use Rattle.sp_words.specs.Words.{command_of}
use Rattle.sp_words.specs.declared.command.Command.{Command}
use Rattle.sp_words.specs.declared.requests.RunRequest.{RunRequest}
use Rattle.sp_words.specs.declared.requests.ExecRequest.{ExecRequest}
use Rattle.sp_words.specs.declared.requests.ReplayRequest.{ReplayRequest}
use Rattle.sp_words.specs.declared.command.Command.TheVariants as command
use Rattle.superpascal.specs.declared.ending.Answer.{Answer}
use Rattle.superpascal.specs.declared.ending.Ending.{Ending}
use Rattle.superpascal.specs.declared.outcome.Outcome.{Outcome}
use Rattle.superpascal.specs.Answers.{has_output, line_of, notes_of, output_of, status_of}
use Rattle.superpascal.specs.Causes.{Cause, Files, Stream}
use Rattle.superpascal.specs.Runs.{Reports}
use Rattle.superpascal.specs.Texts.{text_of}

-- what a sink has got, where it tells it, before and after the call, and its counts of faults
pub record Sink : Type 0 where
  pub written : Option (List ℕ)
  pub written' : Option (List ℕ)
  pub before : ℕ
  pub after : ℕ

-- a sink of the type A before and after, by what was written and its counts
abbrev pub sink_of : {A : Type 0} → (A → Option (List ℕ)) → (A → ℕ) → A → A → Sink
sink_of written faults before after =
    record { written = written before; written' = written after; before = faults before; after = faults after }

-- nothing was put
abbrev pub IsUnwritten : Sink → Type 0
IsUnwritten s = (s.written' ≡ s.written) × (s.after ≡ s.before)

-- all of these bytes were written
abbrev pub WroteAll : Sink → List ℕ → Type 0
WroteAll s bytes = Grows s.written s.written' bytes

-- a first part of these bytes was written, maybe none or all
abbrev pub WrotePart : Sink → List ℕ → Type 0
WrotePart s bytes = (n : ℕ) × (n ≤ length bytes) × Grows s.written s.written' (take n bytes)

-- the sink's count of faults rose
abbrev pub Failed : Sink → Type 0
Failed s = Rose s.before s.after

-- A call: the words, what it finds outside and leaves there, the texts of the reports, and its outcome.
pub record Call : Type 0 where
  pub words : List (List ℕ)
  pub files : Files
  pub source : Stream
  pub reports : Reports
  pub output : Sink
  pub notes : Sink
  pub outcome : Outcome

-- a call by its parts
abbrev pub call : List (List ℕ) → Files → Stream → Reports → Sink → Sink → Outcome → Call
call w f s r o n x = record { words = w; files = f; source = s; reports = r; output = o; notes = n; outcome = x }

-- of the run that the words ask for, and its text, where the library tells it
abbrev pub OfRun : Call → (RunRequest → List ℕ → Type 0) → Type 0
OfRun c P = (a : RunRequest) (text : List ℕ) → command_of c.words ≡ Some (command.Run a)
    → c.files.held a.file ≡ Some text → P a text

-- the same with the input, where the source tells it
abbrev pub OfInput : Call → (RunRequest → List ℕ → List ℕ → Type 0) → Type 0
OfInput c P = OfRun c (λ a text. (input : List ℕ) → c.source.left ≡ Some input → P a text input)

-- of the journal that the words ask to follow, the bytes of its text and its own, where the library tells both
abbrev pub OfReplay : Call → (ReplayRequest → List ℕ → List ℕ → Type 0) → Type 0
OfReplay c P = (b : ReplayRequest) (text bytes : List ℕ) → command_of c.words ≡ Some (command.Replay b)
    → c.files.held b.file ≡ Some text → c.files.held b.journal ≡ Some bytes → P b text bytes

-- the same with the input, where the source tells it
abbrev pub OfReplayInput : Call → (ReplayRequest → List ℕ → List ℕ → List ℕ → Type 0) → Type 0
OfReplayInput c P = OfReplay c (λ b text bytes. (input : List ℕ) → c.source.left ≡ Some input → P b text bytes input)

-- of the execution that the words ask for, and the bytes of its code file, where the library tells them
abbrev pub OfExecution : Call → (ExecRequest → List ℕ → Type 0) → Type 0
OfExecution c P = (b : ExecRequest) (bytes : List ℕ) → command_of c.words ≡ Some (command.Exec b)
    → c.files.held b.file ≡ Some bytes → P b bytes

-- the same with the input, where the source tells it
abbrev pub OfExecutionInput : Call → (ExecRequest → List ℕ → List ℕ → Type 0) → Type 0
OfExecutionInput c P = OfExecution c (λ b bytes. (input : List ℕ) → c.source.left ≡ Some input → P b bytes input)

-- of the command that the words ask for, and its text, where that is told
abbrev pub OfText : Call → (Command → List ℕ → Type 0) → Type 0
OfText c P = (d : Command) (text : List ℕ) → command_of c.words ≡ Some d → text_of c.files.held d ≡ Some text → P d text

-- a fault outside, too long an input or want of memory came in place of the status that was due
abbrev pub IsOutside : ℕ → Type 0
IsOutside status = (5 ≤ status) × (status ≤ 8)

-- the status and the line of this ending, unless the outside came in their place
abbrev pub SaysEnding : Call → Ending → Type 0
SaysEnding c x = ((c.outcome.status ≡ status_of x) × WroteAll c.notes (line_of x)) ⊎ IsOutside c.outcome.status

-- the status of an end, or that of a text from which something is made
abbrev pub IsFinal : ℕ → Type 0
IsFinal status = (status ≡ 0) ⊎ ((status ≡ 3) ⊎ (status ≡ 4))

-- The status comes only where the fact holds; and where it holds the status comes, unless the outside came in its
-- place.
abbrev pub Exactly : ℕ → ℕ → Type 0 → Type 0
Exactly status s P = (status ≡ s → P) × (P → (status ≡ s) ⊎ IsOutside status)

-- How an answer is written. Its status is displaced by 6 where a write fails.
pub record WritesAnswer (a : Answer) (output notes : Sink) (status : ℕ) : Type 0 where
  pub status_is : (status ≡ status_of a.ending) ⊎ (status ≡ 6)
  pub all_written : status ≢ 6 → WroteAll output (output_of a) × WroteAll notes (notes_of a)
  pub displaced : status ≡ 6 → Failed output ⊎ Failed notes
  pub part_of_output : WrotePart output (output_of a)
  pub part_of_notes : WrotePart notes (notes_of a)
  -- the output was written whole, unless its count rose
  pub whole_output : (Failed output → ⊥) → WroteAll output (output_of a)
  -- the notes come after the whole output
  pub output_first : IsUnwritten notes ⊎ WroteAll output (output_of a)
  -- the count of the output rises only where there is one, whose status is 0, 3 or 4
  pub with_output : output.before < output.after → has_output a.ending ≡ true
  -- nothing is written to the output where there is none
  pub untouched : has_output a.ending ≡ false → IsUnwritten output

-- The answer that was due, why, and how it was written: what stands of a status that 6 displaces.
pub record IsAnswered (c : Call) : Type 0 where
  pub answer : Answer
  pub cause : Cause c.files c.source c.reports (command_of c.words) answer
  pub written : WritesAnswer answer c.output c.notes c.outcome.status
  pub ran : c.outcome.ran ≡ answer.ran
  pub executed : c.outcome.executed ≡ answer.executed
