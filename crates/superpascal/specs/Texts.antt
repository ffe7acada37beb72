-- All of this belongs to what the program promises (docs/promise.txt).
-- What each command finds in a text: the first rule for which it refuses the text (`FirstBrokenFor`), or none
-- (`AcceptedFor`), or what it makes of it (`Makes`). The contracts of `texts` promise it, and the causes, the headline
-- and the writing cite it.
use Rattle.std.specs.Prelude.{◌≡◌, ◌⊎◌, ℕ, ◌<◌, ◌≤◌, List, [], Option, Some, None, IfSome, codes, length}
use Rattle.std.specs.Prelude.{option_and_then}
use Rattle.sp_base.specs.declared.halt.Refusal.{Refusal}
use Rattle.sp_code.specs.Places.{tree_length}
use Rattle.sp_code.specs.declared.code.Parts.{Parts}
use Rattle.sp_codefile.specs.CodeText.{IsTextOf}
use Rattle.sp_front.specs.Codes.{BreaksLength, HasListing}
use Rattle.sp_format.specs.Formats.{HasLayout, HasNoLayout}
use Rattle.sp_front.specs.Checks.{FirstBrokenUpToTypes, IsChecked, IsProgramOf}
use Rattle.sp_front.specs.Compiles.{FirstBrokenOfPhases, IsAccepted}
use Rattle.sp_gen.specs.GeneratedText.{generated_text}
use Rattle.sp_generate.specs.GeneratorAnswers.{IsCodeOf}
use Rattle.sp_journal.specs.ReadAnswers.{IsText}
use Rattle.sp_meaning.specs.LocalWork.{RunInput}
use Rattle.sp_meaning.specs.Runs.{IsDisjointRun}
use Rattle.sp_verify_rules.specs.Verdict.{IsVerified}
use Rattle.sp_varsets.specs.SetsText.{IsSetsText}
use Rattle.sp_tree.specs.Bare.{without_places}
use Rattle.sp_tree.specs.Plain as m
use Rattle.sp_tree.specs.PlainChecked as c
use Rattle.sp_varsets.specs.AreSets.{AreSets}
use Rattle.sp_varsets.specs.declared.sets.Sets.{Sets}
use Rattle.sp_words.specs.declared.command.Command.{Command}
use Rattle.sp_words.specs.declared.command.Command.TheVariants as command
use Rattle.sp_words.specs.declared.requests.ReplayRequest.{ReplayRequest}

-- the text has a tree that breaks no rule of the phases, and its code is no longer than code may be
abbrev pub IsAcceptedText : List ℕ → Type 0
IsAcceptedText text = (p : c.Program) × IsAccepted text p × (tree_length (without_places p) ≤ 1048576)

-- the first of all rules that the text breaks: of the phases, or that of the length of its code
abbrev pub FirstBroken : List ℕ → Refusal → Type 0
FirstBroken text r = FirstBrokenOfPhases text r ⊎ BreaksLength text r

-- this is the text of the sets of the text's tree
abbrev pub HasSets : List ℕ → List ℕ → Type 0
HasSets text out = (p : c.Program) × IsChecked text p × (s : Sets) × AreSets p s × IsSetsText p s out

-- the text breaks no rule, and this is the text of its code
abbrev pub HasCodeText : List ℕ → List ℕ → Type 0
HasCodeText text out =
    (p : c.Program) × IsAccepted text p × (tree_length (without_places p) ≤ 1048576) × (code : Parts)
    × IsCodeOf (without_places p) code × IsTextOf code out

-- the text of the code is no longer than is loaded
abbrev pub IsCodeFile : List ℕ → List ℕ → Type 0
IsCodeFile text out = HasCodeText text out × (length out ≤ 67108864)

-- the text of the code is longer than that
abbrev pub HasLongCode : List ℕ → Type 0
HasLongCode text = (out : List ℕ) × HasCodeText text out × (67108864 < length out)

-- these bytes are the text of this code, which breaks no rule of code files, and no more than are loaded
pub record IsFileOf (code : Parts) (bytes : List ℕ) : Type 0 where
  pub text : IsTextOf code bytes
  pub short : length bytes ≤ 67108864
  pub verified : IsVerified code

-- these bytes are the text of some such code
abbrev pub IsSoundFile : List ℕ → Type 0
IsSoundFile bytes = (code : Parts) × IsFileOf code bytes

-- on no input, with no limits and in no lawful schedule does a process of the text's program write what a parallel one
-- reads or writes
abbrev pub IsDisjointText : List ℕ → Type 0
IsDisjointText text = (p : m.Program) → IsProgramOf text p → (g : RunInput) → g.program ≡ p → IsDisjointRun g

-- the file that a command loads first: its text, or its code file
abbrev pub file_of : Command → Option (List ℕ)
file_of (command.Check file) = Some file
file_of (command.Run asked) = Some asked.file
file_of (command.Code file) = Some file
file_of (command.Sets file) = Some file
file_of (command.Format file) = Some file
file_of (command.Gen size workers) = None
file_of (command.Replay asked) = Some asked.file
file_of (command.Build file) = Some file
file_of (command.Exec asked) = Some asked.file

-- what that file holds, where the library tells it, or the text that the command makes itself
abbrev pub text_of : (List ℕ → Option (List ℕ)) → Command → Option (List ℕ)
text_of held (command.Gen size workers) = Some (generated_text size)
text_of held c = option_and_then held (file_of c)

-- the command loads what is held under this name: its file, or the journal that it follows, where its text breaks no
-- rule
abbrev pub LoadsText : (List ℕ → Option (List ℕ)) → Command → List ℕ → Type 0
LoadsText held c name = (file_of c ≡ Some name) ⊎ ((b : ReplayRequest) × (c ≡ command.Replay b) × (b.journal ≡ name)
    × IfSome (held b.file) IsAcceptedText)

-- the first rule for which the command refuses the text: of all rules, for `sets` of those of characters, grammar,
-- names and types, for `format` of those that it goes through; a code file has no text that could break one
abbrev pub FirstBrokenFor : Command → List ℕ → Refusal → Type 0
FirstBrokenFor (command.Sets file) text r = FirstBrokenUpToTypes text r
FirstBrokenFor (command.Format file) text r = HasNoLayout text r
FirstBrokenFor (command.Exec asked) text r = ⊥
FirstBrokenFor _ text r = FirstBroken text r

-- the command refuses the text for no rule, and a code file neither
abbrev pub AcceptedFor : Command → List ℕ → Type 0
AcceptedFor (command.Sets file) text = (p : c.Program) × IsChecked text p
AcceptedFor (command.Format file) text = (out : List ℕ) × HasLayout text out
AcceptedFor (command.Exec asked) text = IsSoundFile text
AcceptedFor _ text = IsAcceptedText text

-- the commands that answer from the text alone
abbrev pub asks_text : Command → Type 0
asks_text (command.Run asked) = ⊥
asks_text (command.Gen size workers) = ⊥
asks_text (command.Replay asked) = ⊥
asks_text (command.Exec asked) = ⊥
asks_text _ = Unit {0}

-- the commands that run a program with workers
abbrev pub asks_run : Command → Type 0
asks_run (command.Run asked) = Unit {0}
asks_run (command.Gen size workers) = Unit {0}
asks_run _ = ⊥

-- the commands that follow a journal
abbrev pub asks_replay : Command → Type 0
asks_replay (command.Replay asked) = Unit {0}
asks_replay _ = ⊥

-- the command that writes a code file
abbrev pub asks_build : Command → Type 0
asks_build (command.Build file) = Unit {0}
asks_build _ = ⊥

-- these bytes are the text of a journal, and no more than are loaded
abbrev pub IsJournalText : List ℕ → Type 0
IsJournalText bytes = IsText bytes × (length bytes ≤ 67108864)

-- the command reads the input, where what it loads before is right
abbrev pub CanRead : (List ℕ → Option (List ℕ)) → Command → Type 0
CanRead held (command.Run asked) = IfSome (held asked.file) IsAcceptedText
CanRead held (command.Replay asked) = IfSome (held asked.file) IsAcceptedText
    × IfSome (held asked.journal) IsJournalText
CanRead held (command.Exec asked) = IfSome (held asked.file) IsSoundFile
CanRead _ _ = ⊥

-- what the command makes of the text alone, for the output and for the notes
abbrev pub Makes : Command → List ℕ → List ℕ → List ℕ → Type 0
Makes (command.Check file) text out line = IsAcceptedText text × (out ≡ []) × (line ≡ codes "accepted\n")
Makes (command.Code file) text out line = HasListing text out × (line ≡ [])
Makes (command.Sets file) text out line = HasSets text out × (line ≡ [])
Makes (command.Format file) text out line = HasLayout text out × (line ≡ [])
Makes (command.Build file) text out line = IsCodeFile text out × (line ≡ [])
Makes _ _ _ _ = ⊥

-- the commands that go through the rules of interference too, and name no broken one
abbrev pub asks_all : Command → Type 0
asks_all (command.Sets file) = ⊥
asks_all (command.Format file) = ⊥
asks_all (command.Exec asked) = ⊥
asks_all _ = Unit {0}
