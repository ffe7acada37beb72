-- None of this belongs to what the program promises: it is for contracts between crates.
-- What each step of a command answers: what it gives, or by which cause it ends the command so. The contracts of
-- `prepare`, `runs`, `replays`, `executions`, `texts` and `top` promise it.
use Rattle.std.specs.Prelude.{◌≡◌, ◌⊎◌, ℕ, ◌<◌, ◌≤◌, List, Option, Some, None, IfSome, Result, Ok, Err, length, vec_len}
use Rattle.std.specs.declared.alloc.Global.{Global}
use Rattle.std.specs.declared.vec.Vec.{Vec}
use Rattle.sp_base.specs.declared.halt.Halt.{Halt}
use Rattle.sp_base.specs.declared.halt.Halt.TheVariants as halt
use Rattle.sp_base.specs.declared.halt.Refusal.{Refusal}
use Rattle.sp_base.specs.declared.limits.Limits.{Limits}
use Rattle.sp_base.specs.declared.rule.Rule.TheVariants as rule
use Rattle.sp_code.specs.declared.code.Parts.{Parts}
use Rattle.sp_code.specs.Sound.{IsSound, run_of}
use Rattle.sp_codefile.specs.CodeText.{IsFirstBad as IsFirstBadOfCode, IsTextOf as IsTextOfCode}
use Rattle.sp_codefile.specs.VerifyAnswers.{rule_of}
use Rattle.sp_codefile.specs.declared.verifier.VRule.{VRule}
use Rattle.sp_execute.specs.TextTold.{IsToldInText}
use Rattle.sp_execute.specs.declared.execution.Ran.{Ran}
use Rattle.sp_front.specs.Checks.{FirstBrokenUpToTypes}
use Rattle.sp_front.specs.TextMarks.{IsMarked}
use Rattle.sp_front.specs.declared.marks.MarkedText.{MarkedText}
use Rattle.sp_journal.specs.declared.entry.Journal.{Journal}
use Rattle.sp_journal.specs.declared.version.Version.{Version}
use Rattle.sp_journal.specs.ReadAnswers.{IsText}
use Rattle.sp_journal.specs.Texts.{IsFirstBad, IsTextOf}
use Rattle.sp_kernel.specs.declared.closed.Closed.{Closed}
use Rattle.sp_outside.specs.Counts.{Rose}
use Rattle.sp_outside.specs.Visible.{IsAtEnd}
use Rattle.sp_lines.specs.Marks.{marks}
use Rattle.sp_replay.specs.declared.replayer.Replayed.{Replayed}
use Rattle.sp_replay.specs.TraceAnswers.{TracedTo}
use Rattle.sp_replay.specs.declared.trace.Traced.{Traced}
use Rattle.sp_verify_rules.specs.Verdict.{IsRejected, IsVerified}
use Rattle.sp_lines.specs.Constants.{by_kind, constants_of}
use Rattle.sp_tree.specs.Breaches.{IsTree}
use Rattle.sp_tree.specs.CheckedOf.{program_of}
use Rattle.sp_tree.specs.Places.{start}
use Rattle.sp_tree.specs.PlainChecked as c
use Rattle.sp_tree.specs.PlainSyntax.{Program as Syntax}
use Rattle.sp_where.specs.declared.symbols.Symbols.{Symbols}
use Rattle.sp_words.specs.declared.command.Command.{Command}
use Rattle.sp_words.specs.declared.requests.View.{View}
use Rattle.sp_words.specs.declared.requests.View.TheVariants as view
use Rattle.superpascal.specs.declared.ending.Ending.{Ending}
use Rattle.superpascal.specs.declared.ending.Ending.TheVariants as e
use Rattle.superpascal.specs.declared.ending.Answer.{Answer}
use Rattle.superpascal.specs.declared.teller.Account.{Account}
use Rattle.superpascal.specs.declared.teller.Ready.{Ready}
use Rattle.superpascal.specs.declared.teller.Teller.{Teller}
use Rattle.superpascal.specs.declared.teller.Teller.TheVariants as teller
use Rattle.sp_words.specs.declared.requests.Telling.{Telling}
use Rattle.superpascal.specs.AnswerParts.{HasCode, ending_answer}
use Rattle.superpascal.specs.Causes.{Cause, Due, Files, HasMadeOutput, IsLongCode, IsNotLoaded, IsRefusedFor, IsKnownAs}
use Rattle.superpascal.specs.Causes.{IsTooLong, ReadsAfterRules, Stream, answer_without_output}
use Rattle.superpascal.specs.Executions.{execution_answer}
use Rattle.superpascal.specs.Replays.{IsJournalOf, IsReplayOf, IsUnfitFor, IsWritten, replay_answer}
use Rattle.superpascal.specs.Runs.{Reports, generated_answer, run_answer}
use Rattle.superpascal.specs.Texts.{FirstBroken, HasSets, IsFileOf}

-- ---- what is loaded

-- what a text breaks that is longer than a text may be
abbrev pub length_refusal : Refusal
length_refusal = record { rule = rule.L1; at = start }

-- why nothing is loaded: more is held than the limit, and `long` is the ending for that; the library failed; or memory
-- was wanting
abbrev pub LoadFails : Files → List ℕ → ℕ → Ending → Ending → Type 0
LoadFails f name limit long x =
    ((x ≡ long) × IfSome (f.held name) (λ all. limit < length all))
    ⊎ (((x ≡ e.ReadFault) × Rose (f.before name) (f.after name)) ⊎ (x ≡ e.OutOfMemory))

-- the bytes under a name
abbrev pub GivesBytes : Files → List ℕ → ℕ → Ending → Result (Vec ℕ Global) Ending → Type 0
GivesBytes f name limit long (Ok bytes) = IsKnownAs (f.held name) bytes.items × (vec_len bytes ≤ limit)
GivesBytes f name limit long (Err x) = LoadFails f name limit long x

-- the text under a name
abbrev pub GivesText : Files → List ℕ → Result (Vec ℕ Global) Ending → Type 0
GivesText f name r = GivesBytes f name 1048576 (e.Refused length_refusal) r

-- ---- the code of a text

-- the code of a text, or the first rule that it breaks
abbrev pub CompilesTo : List ℕ → Result Parts Ending → Type 0
CompilesTo text (Ok code) = (tree : c.Program) × HasCode text tree code
CompilesTo text (Err x) = ((r : Refusal) × (x ≡ e.Refused r) × FirstBroken text r) ⊎ (x ≡ e.OutOfMemory)

-- why no code comes of the text under a name
abbrev pub IsUnready : Files → List ℕ → Ending → Type 0
IsUnready f name x =
    ((r : Refusal) × (x ≡ e.Refused r) × IfSome (f.held name) (λ text. FirstBroken text r))
    ⊎ (((x ≡ e.ReadFault) × Rose (f.before name) (f.after name)) ⊎ (x ≡ e.OutOfMemory))

-- the code of the text under a name
abbrev pub GivesCode : Files → List ℕ → Result Parts Ending → Type 0
GivesCode f name (Ok code) = (text : List ℕ) × IsKnownAs (f.held name) text × (tree : c.Program)
    × HasCode text tree code
GivesCode f name (Err x) = IsUnready f name x

-- what is known of a text, for commands that tell its places and names, or the first rule that it breaks
abbrev pub MarksTo : List ℕ → Result MarkedText Ending → Type 0
MarksTo text (Ok m) = IsMarked text m
MarksTo text (Err x) = ((r : Refusal) × (x ≡ e.Refused r) × FirstBroken text r) ⊎ (x ≡ e.OutOfMemory)

-- the same of the text under a name
abbrev pub GivesMarked : Files → List ℕ → Result MarkedText Ending → Type 0
GivesMarked f name (Ok m) = (text : List ℕ) × IsKnownAs (f.held name) text × IsMarked text m
GivesMarked f name (Err x) = IsUnready f name x

-- these are the tree, the marks and the names of the text
pub record HasSymbols (text : List ℕ) (tree : c.Program) (y : Symbols) : Type 0 where
  pub checked : program_of y.checked ≡ tree
  pub marks : y.marks ≡ marks tree
  pub syntax : Syntax
  pub spelt : IsTree text syntax
  pub constants : y.constants ≡ by_kind y.checked.kinds (constants_of syntax)

-- the code, the tree, the marks and the names of the text under a name
abbrev pub GivesSymbols : Files → List ℕ → Result (Parts × Symbols) Ending → Type 0
GivesSymbols f name (Ok r) = (text : List ℕ) × IsKnownAs (f.held name) text × (tree : c.Program)
    × HasCode text tree r.0 × HasSymbols text tree r.1
GivesSymbols f name (Err x) = IsUnready f name x

-- by this a journal of the text is told, where that is asked for
abbrev pub HasTeller : List ℕ → c.Program → View → Teller → Type 0
HasTeller text tree view.Output teller.Output = Unit {0}
HasTeller text tree view.Output (teller.Entries y) = ⊥
HasTeller text tree view.Output (teller.State y) = ⊥
HasTeller text tree view.Entries teller.Output = ⊥
HasTeller text tree view.Entries (teller.Entries y) = HasSymbols text tree y
HasTeller text tree view.Entries (teller.State y) = ⊥
HasTeller text tree view.State teller.Output = ⊥
HasTeller text tree view.State (teller.Entries y) = ⊥
HasTeller text tree view.State (teller.State y) = HasSymbols text tree y

-- the code of the text under a name, and by what its journals are told
abbrev pub GivesReady : Files → List ℕ → View → Result Ready Ending → Type 0
GivesReady f name v (Ok r) = (text : List ℕ) × IsKnownAs (f.held name) text × (tree : c.Program)
    × HasCode text tree r.code × HasTeller text tree v r.teller
GivesReady f name v (Err x) = IsUnready f name x

-- the sets of a text, as a text
abbrev pub TellsSets : List ℕ → Result (Vec ℕ Global) Halt → Type 0
TellsSets text (Ok out) = HasSets text out.items
TellsSets text (Err (halt.Refused r)) = FirstBrokenUpToTypes text r
TellsSets text (Err halt.Memory) = Unit {0}

-- ---- a journal

-- these bytes are the text of no journal, and this line is the first that is wrong
abbrev pub IsNoJournalAt : List ℕ → ℕ → Type 0
IsNoJournalAt bytes line = IsFirstBad line bytes × (IsText bytes → ⊥)

-- the journal of these bytes, which are no more than are loaded
abbrev pub ReadsJournal : List ℕ → Result Journal Ending → Type 0
ReadsJournal bytes (Ok j) = (v : Version) × IsTextOf v j bytes
ReadsJournal bytes (Err x) = ((n : ℕ) × (x ≡ e.BadJournal n) × IsNoJournalAt bytes n) ⊎ (x ≡ e.OutOfMemory)

-- the journal under a name
abbrev pub GivesJournal : Files → List ℕ → Result Journal Ending → Type 0
GivesJournal f name (Ok j) = (bytes : List ℕ) × IsKnownAs (f.held name) bytes × IsJournalOf bytes j
GivesJournal f name (Err x) =
    LoadFails f name 67108864 e.LongJournal x
    ⊎ ((bytes : List ℕ) × (n : ℕ) × IsKnownAs (f.held name) bytes × (length bytes ≤ 67108864) × (x ≡ e.BadJournal n)
    × IsNoJournalAt bytes n)

-- ---- a code file

-- the code whose text these bytes are
abbrev pub DecodesTo : List ℕ → Result Parts Ending → Type 0
DecodesTo bytes (Ok code) = IsTextOfCode code bytes
DecodesTo bytes (Err x) = ((n : ℕ) × (x ≡ e.BadCode n) × IsFirstBadOfCode n bytes) ⊎ (x ≡ e.OutOfMemory)

-- the code itself, which breaks no rule
abbrev pub VerifiesTo : Parts → Result Parts Ending → Type 0
VerifiesTo code (Ok given) = (given ≡ code) × IsVerified code
VerifiesTo code (Err x) =
    ((v : VRule) × (i : ℕ) × (x ≡ e.Rejected v i) × IsRejected code (rule_of v) i) ⊎ (x ≡ e.OutOfMemory)

-- what is wrong with the bytes of a code file
abbrev pub IsFaulty : List ℕ → Ending → Type 0
IsFaulty bytes x =
    ((n : ℕ) × (x ≡ e.BadCode n) × IsFirstBadOfCode n bytes)
    ⊎ ((code : Parts) × (v : VRule) × (i : ℕ) × (x ≡ e.Rejected v i) × IsTextOfCode code bytes
    × IsRejected code (rule_of v) i)

-- the code of the code file under a name
abbrev pub GivesFile : Files → List ℕ → Result Parts Ending → Type 0
GivesFile f name (Ok code) = (bytes : List ℕ) × IsKnownAs (f.held name) bytes × IsFileOf code bytes
GivesFile f name (Err x) =
    LoadFails f name 67108864 e.LongFile x
    ⊎ ((bytes : List ℕ) × IsKnownAs (f.held name) bytes × (length bytes ≤ 67108864) × IsFaulty bytes x)

-- ---- the input

-- the input that the source gives was read whole
pub record HasInput (s : Stream) (input : List ℕ) : Type 0 where
  pub read : IsKnownAs s.left input
  pub fits : length input ≤ 16777216
  pub at_end : IsAtEnd s.left'

-- the whole input
abbrev pub GivesInput : Stream → Result (List ℕ) Ending → Type 0
GivesInput s (Ok input) = HasInput s input
GivesInput s (Err x) =
    ((x ≡ e.ReadFault) × Rose s.before s.after)
    ⊎ (((x ≡ e.TooLong) × IfSome s.left IsTooLong) ⊎ (x ≡ e.OutOfMemory))

-- ---- what is told

-- how a run is told, or want of memory
abbrev pub ReportsRun : Reports → Telling → Ran → Result Answer Ending → Type 0
ReportsRun reports telling r (Ok a) = a ≡ run_answer reports telling r
ReportsRun reports telling r (Err x) = x ≡ e.OutOfMemory

-- how a run is told by `gen`, or want of memory
abbrev pub ReportsGenerated : ℕ → Ran → Result Answer Ending → Type 0
ReportsGenerated size r (Ok a) = a ≡ generated_answer size r
ReportsGenerated size r (Err x) = x ≡ e.OutOfMemory

-- how a journal that was followed is told, or want of memory
abbrev pub TellsReplay : Account → Result Answer Ending → Type 0
TellsReplay r (Ok a) = a ≡ replay_answer r.end r.text
TellsReplay r (Err x) = x ≡ e.OutOfMemory

-- how the run of a code file is told, or want of memory
abbrev pub TellsExecution : Closed → Result Answer Ending → Type 0
TellsExecution r (Ok a) = a ≡ execution_answer r
TellsExecution r (Err x) = x ≡ e.OutOfMemory

-- following the journal with the program of the text
abbrev pub ReplaysTo : List ℕ → List ℕ → Limits → Journal → Result Replayed Ending → Type 0
ReplaysTo text input limits j (Ok r) = IsReplayOf text input limits j r
ReplaysTo text input limits j (Err x) =
    ((n : ℕ) × (x ≡ e.Unfit n) × IsUnfitFor text input limits j n) ⊎ (x ≡ e.OutOfMemory)

-- the same with the code of the text's tree, and what is told of the entries, with its places in the text
abbrev pub TracesTo : List ℕ → c.Program → Parts → List ℕ → Limits → Journal → Result Traced Ending → Type 0
TracesTo text tree code input limits j (Ok t) = IsReplayOf text input limits j t.replayed
    × TracedTo (run_of code input limits) j.entries t × IsToldInText tree (run_of code input limits) j.entries t
    × IsSound code
TracesTo text tree code input limits j (Err x) = ReplaysTo text input limits j (Err x)

-- following the journal with the program of the text, and what is written of it
abbrev pub AccountsFor : View → List ℕ → List ℕ → Limits → Journal → Result Account Ending → Type 0
AccountsFor v text input limits j (Ok a) = (r : Replayed) × IsReplayOf text input limits j r × (a.end ≡ r.end)
    × IsWritten v text input limits j r a.text
AccountsFor v text input limits j (Err x) = ReplaysTo text input limits j (Err x)

-- ---- what a command answers

-- this is said of the answer, or of that by which what was asked ends
abbrev pub IsSaidOf : (Answer → Type 0) → Result Answer Ending → Type 0
IsSaidOf P (Ok a) = P a
IsSaidOf P (Err x) = P (ending_answer x)

-- the answer of a command that answers from the text alone
abbrev pub TextCause : Files → Command → Answer → Type 0
TextCause f c a = HasMadeOutput f c a
    ⊎ (IsLongCode f c a ⊎ (IsRefusedFor f c a ⊎ (IsNotLoaded f c a ⊎ (a ≡ answer_without_output e.OutOfMemory))))

abbrev pub AnswersText : Files → Command → Result Answer Ending → Type 0
AnswersText f c r = IsSaidOf (TextCause f c) r

-- what comes of words that ask for a command
abbrev pub CommandCause : Files → Stream → Reports → Command → Answer → Type 0
CommandCause f s reports c a = Due f s reports c a × ReadsAfterRules f s c

abbrev pub AnswersCommand : Files → Stream → Reports → Command → Result Answer Ending → Type 0
AnswersCommand f s reports c r = IsSaidOf (CommandCause f s reports c) r

-- the command that the words ask for, or that they ask for none
abbrev pub ReadsCommand : Option Command → Result Command Ending → Type 0
ReadsCommand words (Ok c) = words ≡ Some c
ReadsCommand words (Err x) = ((x ≡ e.BadWords) × (words ≡ None)) ⊎ (x ≡ e.OutOfMemory)

-- what comes of words
abbrev pub AnswersWords : Files → Stream → Reports → Option Command → Result Answer Ending → Type 0
AnswersWords f s reports words r = IsSaidOf (Cause f s reports words) r
