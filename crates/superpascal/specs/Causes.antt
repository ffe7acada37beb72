-- All of this belongs to what the program promises (docs/promise.txt).
-- What a call finds outside, and why an answer is due (`Cause`): for each ending the cause that it names. The contracts
-- of the parts of a call promise it, and the statuses of the top call are led from it.
use Rattle.std.specs.Prelude.{◌≡◌, ◌⊎◌, ℕ, ◌<◌, ◌≤◌, List, [], Option, Some, None, IfSome, length}
use Rattle.sp_base.specs.declared.halt.Refusal.{Refusal}
use Rattle.sp_code.specs.declared.code.Parts.{Parts}
use Rattle.sp_codefile.specs.CodeText.{IsFirstBad as IsFirstBadOfCode, IsTextOf as IsTextOfCode}
use Rattle.sp_codefile.specs.VerifyAnswers.{rule_of}
use Rattle.sp_codefile.specs.declared.verifier.VRule.{VRule}
use Rattle.sp_gen.specs.GeneratedText.{generated_text}
use Rattle.sp_execute.specs.declared.execution.Ran.{Ran}
use Rattle.sp_journal.specs.declared.entry.Journal.{Journal}
use Rattle.sp_journal.specs.ReadAnswers.{IsText}
use Rattle.sp_journal.specs.Texts.{IsFirstBad}
use Rattle.sp_kernel.specs.declared.closed.Closed.{Closed}
use Rattle.sp_outside.specs.Counts.{Rose}
use Rattle.sp_outside.specs.Visible.{IsAtEnd}
use Rattle.sp_replay.specs.declared.replayer.Replayed.{Replayed}
use Rattle.sp_verify_rules.specs.Verdict.{IsRejected}
use Rattle.sp_words.specs.Ranges.{default_limits}
use Rattle.sp_words.specs.declared.command.Command.{Command}
use Rattle.sp_words.specs.declared.command.Command.TheVariants as command
use Rattle.sp_words.specs.declared.requests.RunRequest.{RunRequest}
use Rattle.sp_words.specs.declared.requests.ExecRequest.{ExecRequest}
use Rattle.sp_words.specs.declared.requests.ReplayRequest.{ReplayRequest}
use Rattle.superpascal.specs.declared.ending.Ending.{Ending}
use Rattle.superpascal.specs.declared.ending.Ending.TheVariants as e
use Rattle.superpascal.specs.declared.ending.Answer.{Answer}
use Rattle.superpascal.specs.Answers.{answer_of, line_of}
use Rattle.superpascal.specs.Executions.{IsExecutionOf, execution_answer}
use Rattle.superpascal.specs.Replays.{IsJournalOf, IsReplayOf, IsUnfitFor, IsWritten, replay_answer}
use Rattle.superpascal.specs.Runs.{IsRunOf, Reports, generated_answer, run_answer}
use Rattle.superpascal.specs.Texts.{FirstBrokenFor, CanRead, HasLongCode, IsAcceptedText, LoadsText, Makes}
use Rattle.superpascal.specs.Texts.{asks_build, text_of}

-- ---- the outside

-- what a library holds under each name, where it tells it, and the counts of its faults before and after the call
pub record Files : Type 0 where
  pub held : List ℕ → Option (List ℕ)
  pub before : List ℕ → ℕ
  pub after : List ℕ → ℕ

-- a library of the type A before and after, by what it holds and counts
abbrev pub files_of : {A : Type 0} → (A → List ℕ → Option (List ℕ)) → (A → List ℕ → ℕ) → A → A → Files
files_of held faults before after = record { held = held before; before = faults before; after = faults after }

-- what a source has left, where it tells it, before and after the call, and its counts of faults
pub record Stream : Type 0 where
  pub left : Option (List ℕ)
  pub left' : Option (List ℕ)
  pub before : ℕ
  pub after : ℕ

-- a source of the type A before and after, by what it has left and counts
abbrev pub stream_of : {A : Type 0} → (A → Option (List ℕ)) → (A → ℕ) → A → A → Stream
stream_of left faults before after =
    record { left = left before; left' = left after; before = faults before; after = faults after }

-- nothing was read
abbrev pub IsUntouched : Stream → Type 0
IsUntouched s = (s.left' ≡ s.left) × (s.after ≡ s.before)

-- the text is what is told, where it is told
abbrev pub IsKnownAs : Option (List ℕ) → List ℕ → Type 0
IsKnownAs told text = IfSome told (λ all. text ≡ all)

-- more input than is read
abbrev pub IsTooLong : List ℕ → Type 0
IsTooLong input = 16777216 < length input

-- ---- answers

-- an answer without an output
abbrev pub answer_without_output : Ending → Answer
answer_without_output ending = record { ending = ending; ran = None; executed = None; output = None; notes = [] }

-- the answer of a command that answers from the text alone
abbrev pub accepted_answer : List ℕ → List ℕ → Answer
accepted_answer out line = record { ending = e.Accepted; ran = None; executed = None; output = Some out; notes = line }

-- the answer with a line of its own, which names a rule or a number
abbrev pub answer_with_line : Ending → Answer
answer_with_line ending = answer_of ending None None None (line_of ending)

-- ---- causes

-- the program of the text has run on the whole input, and this is the answer
pub record HasRun (f : Files) (s : Stream) (reports : Reports) (asked : RunRequest) (a : Answer) : Type 0 where
  pub text : List ℕ
  pub input : List ℕ
  pub ran : Ran
  pub loaded : IsKnownAs (f.held asked.file) text
  pub read : IsKnownAs s.left input
  pub fits : length input ≤ 16777216
  pub at_end : IsAtEnd s.left'
  pub is_run : IsRunOf text input asked.workers asked.limits ran
  pub answer : a ≡ run_answer reports asked.telling ran

-- the generated program of this size has run on no input, and this is the answer
pub record HasGenerated (size workers : ℕ) (a : Answer) : Type 0 where
  pub ran : Ran
  pub is_run : IsRunOf (generated_text size) [] workers default_limits ran
  pub answer : a ≡ generated_answer size ran

-- the command makes this answer of its text
pub record HasMadeOutput (f : Files) (c : Command) (a : Answer) : Type 0 where
  pub text : List ℕ
  pub loaded : IsKnownAs (text_of f.held c) text
  pub output : List ℕ
  pub line : List ℕ
  pub makes : Makes c text output line
  pub answer : a ≡ accepted_answer output line

-- the code of the text is longer than a code file may be
pub record IsLongCode (f : Files) (c : Command) (a : Answer) : Type 0 where
  pub builds : asks_build c
  pub text : List ℕ
  pub loaded : IsKnownAs (text_of f.held c) text
  pub long : HasLongCode text
  pub answer : a ≡ answer_without_output e.LongCode

-- the text of the command breaks a rule first
pub record IsRefusedFor (f : Files) (c : Command) (a : Answer) : Type 0 where
  pub refusal : Refusal
  pub breaks : IfSome (text_of f.held c) (λ text. FirstBrokenFor c text refusal)
  pub answer : a ≡ answer_with_line (e.Refused refusal)

-- the library failed under a name that the command loads
pub record IsNotLoaded (f : Files) (c : Command) (a : Answer) : Type 0 where
  pub name : List ℕ
  pub loads : LoadsText f.held c name
  pub rose : Rose (f.before name) (f.after name)
  pub answer : a ≡ answer_without_output e.ReadFault

-- the source failed, where the command reads it
pub record IsNotRead (f : Files) (s : Stream) (c : Command) (a : Answer) : Type 0 where
  pub reads : CanRead f.held c
  pub rose : Rose s.before s.after
  pub answer : a ≡ answer_without_output e.ReadFault

-- the source gave too much, where the command reads it
pub record IsLongInput (f : Files) (s : Stream) (c : Command) (a : Answer) : Type 0 where
  pub reads : CanRead f.held c
  pub long : IfSome s.left IsTooLong
  pub answer : a ≡ answer_without_output e.TooLong

-- what a command that follows a journal reads: its text, its journal and the whole input, as far as they are told
pub record HasRead (f : Files) (s : Stream) (asked : ReplayRequest) : Type 0 where
  pub text : List ℕ
  pub bytes : List ℕ
  pub journal : Journal
  pub input : List ℕ
  pub loaded : IsKnownAs (f.held asked.file) text
  pub told : IsKnownAs (f.held asked.journal) bytes
  pub is_journal : IsJournalOf bytes journal
  pub read : IsKnownAs s.left input
  pub fits : length input ≤ 16777216
  pub at_end : IsAtEnd s.left'

-- the program of the text was followed along the journal on the whole input, and this is the answer
pub record HasReplayed (f : Files) (s : Stream) (asked : ReplayRequest) (a : Answer) : Type 0 where
  pub has_read : HasRead f s asked
  pub replayed : Replayed
  pub is_replay : IsReplayOf has_read.text has_read.input asked.limits has_read.journal replayed
  pub out : List ℕ
  pub written : IsWritten asked.view has_read.text has_read.input asked.limits has_read.journal replayed out
  pub answer : a ≡ replay_answer replayed.end out

-- entry n is the first that the program cannot make there
pub record IsUnfit (f : Files) (s : Stream) (asked : ReplayRequest) (n : ℕ) (a : Answer) : Type 0 where
  pub has_read : HasRead f s asked
  pub is_unfit : IsUnfitFor has_read.text has_read.input asked.limits has_read.journal n
  pub answer : a ≡ answer_with_line (e.Unfit n)

-- for a text that breaks no rule, line n of the journal is the first that is no text of a next entry
pub record IsBadJournal (f : Files) (asked : ReplayRequest) (n : ℕ) (a : Answer) : Type 0 where
  pub kept : IfSome (f.held asked.file) IsAcceptedText
  pub short : IfSome (f.held asked.journal) (λ bytes. length bytes ≤ 67108864)
  pub bad : IfSome (f.held asked.journal) (IsFirstBad n)
  pub no_text : IfSome (f.held asked.journal) (λ bytes. IsText bytes → ⊥)
  pub answer : a ≡ answer_with_line (e.BadJournal n)

-- for a text that breaks no rule, the journal is longer than the limit
pub record IsLongJournal (f : Files) (asked : ReplayRequest) (a : Answer) : Type 0 where
  pub kept : IfSome (f.held asked.file) IsAcceptedText
  pub long : IfSome (f.held asked.journal) (λ bytes. 67108864 < length bytes)
  pub answer : a ≡ answer_without_output e.LongJournal

-- the code file has run on the whole input, and this is the answer
pub record HasExecuted (f : Files) (s : Stream) (asked : ExecRequest) (a : Answer) : Type 0 where
  pub bytes : List ℕ
  pub input : List ℕ
  pub run : Closed
  pub loaded : IsKnownAs (f.held asked.file) bytes
  pub read : IsKnownAs s.left input
  pub fits : length input ≤ 16777216
  pub at_end : IsAtEnd s.left'
  pub is_execution : IsExecutionOf bytes input asked.limits run
  pub answer : a ≡ execution_answer run

-- the code file is longer than the limit
pub record IsLongFile (f : Files) (asked : ExecRequest) (a : Answer) : Type 0 where
  pub long : IfSome (f.held asked.file) (λ bytes. 67108864 < length bytes)
  pub answer : a ≡ answer_without_output e.LongFile

-- line n of the code file is the first with which its lines begin no code's text
pub record IsBadCode (f : Files) (asked : ExecRequest) (n : ℕ) (a : Answer) : Type 0 where
  pub bytes : List ℕ
  pub loaded : IsKnownAs (f.held asked.file) bytes
  pub short : length bytes ≤ 67108864
  pub bad : IsFirstBadOfCode n bytes
  pub answer : a ≡ answer_with_line (e.BadCode n)

-- the code of the file breaks rule v first, and instruction i is the least at which it does
pub record IsRejectedCode (f : Files) (asked : ExecRequest) (v : VRule) (i : ℕ) (a : Answer) : Type 0 where
  pub bytes : List ℕ
  pub code : Parts
  pub loaded : IsKnownAs (f.held asked.file) bytes
  pub short : length bytes ≤ 67108864
  pub text : IsTextOfCode code bytes
  pub rejected : IsRejected code (rule_of v) i
  pub answer : a ≡ answer_with_line (e.Rejected v i)

-- Why an answer to a command is due.
pub data Due (f : Files) (s : Stream) (reports : Reports) (c : Command) (a : Answer) : Type 0 where
  by_run : (asked : RunRequest) → c ≡ command.Run asked → HasRun f s reports asked a → Due f s reports c a
  by_generated : (size workers : ℕ) → c ≡ command.Gen size workers → HasGenerated size workers a → Due f s reports c a
  by_text : HasMadeOutput f c a → Due f s reports c a
  by_code : IsLongCode f c a → Due f s reports c a
  by_rule : IsRefusedFor f c a → Due f s reports c a
  by_library : IsNotLoaded f c a → Due f s reports c a
  by_source : IsNotRead f s c a → Due f s reports c a
  by_length : IsLongInput f s c a → Due f s reports c a
  by_replay : (asked : ReplayRequest) → c ≡ command.Replay asked → HasReplayed f s asked a → Due f s reports c a
  by_entry : (asked : ReplayRequest) (n : ℕ) → c ≡ command.Replay asked → IsUnfit f s asked n a → Due f s reports c a
  by_line : (asked : ReplayRequest) (n : ℕ) → c ≡ command.Replay asked → IsBadJournal f asked n a → Due f s reports c a
  by_size : (asked : ReplayRequest) → c ≡ command.Replay asked → IsLongJournal f asked a → Due f s reports c a
  by_execution : (asked : ExecRequest) → c ≡ command.Exec asked → HasExecuted f s asked a → Due f s reports c a
  by_long_file : (asked : ExecRequest) → c ≡ command.Exec asked → IsLongFile f asked a → Due f s reports c a
  by_code_line : (asked : ExecRequest) (n : ℕ) → c ≡ command.Exec asked → IsBadCode f asked n a → Due f s reports c a
  by_rejection : (asked : ExecRequest) (v : VRule) (i : ℕ) → c ≡ command.Exec asked
      → IsRejectedCode f asked v i a → Due f s reports c a
  by_memory : a ≡ answer_without_output e.OutOfMemory → Due f s reports c a

-- the source is touched only where the command reads it, and what it loads before is right
abbrev pub ReadsAfterRules : Files → Stream → Command → Type 0
ReadsAfterRules f s c = IsUntouched s ⊎ CanRead f.held c

-- Why an answer to words is due: they are refused, or memory was wanting for them, or they ask for a command.
pub data Cause (f : Files) (s : Stream) (reports : Reports) (words : Option Command) (a : Answer) : Type 0 where
  by_words : words ≡ None → a ≡ answer_without_output e.BadWords → IsUntouched s → Cause f s reports words a
  before_words : a ≡ answer_without_output e.OutOfMemory → IsUntouched s → Cause f s reports words a
  by_command : (c : Command) → words ≡ Some c → Due f s reports c a → ReadsAfterRules f s c → Cause f s reports words a
