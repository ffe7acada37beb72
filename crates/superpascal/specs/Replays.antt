-- All of this belongs to what the program promises (docs/promise.txt).
-- The program of a text along a journal, and what is told of it. The contracts of `replays` and `notes` promise it; the
-- clauses on `replay`, `trace` and `where` and the written texts are said by it.
use Rattle.std.specs.Option.{option_map_or}
use Rattle.std.specs.Prelude.{◌≡◌, ℕ, ◌≤◌, List, ◌++◌, Option, Some, None, codes, length}
use Rattle.sp_base.specs.declared.limits.Limits.{Limits}
use Rattle.sp_execute.specs.Follows.{IsFollowed, IsUnfitAt}
use Rattle.sp_execute.specs.Runs.{run_input}
use Rattle.sp_journal.specs.declared.entry.Journal.{Journal}
use Rattle.sp_journal.specs.declared.outcome.End.{End}
use Rattle.sp_journal.specs.declared.version.Version.{Version}
use Rattle.sp_journal.specs.Texts.{IsTextOf}
use Rattle.sp_print.specs.OutcomeLines.{end_text}
use Rattle.sp_replay.specs.declared.replayer.Replayed.{Replayed}
use Rattle.sp_tree.specs.Bare.{without_places}
use Rattle.sp_tree.specs.PlainChecked as c
use Rattle.sp_words.specs.declared.requests.View.{View}
use Rattle.sp_words.specs.declared.requests.View.TheVariants as view
use Rattle.superpascal.specs.declared.ending.Ending.{Ending}
use Rattle.superpascal.specs.declared.ending.Ending.TheVariants as e
use Rattle.superpascal.specs.declared.ending.Answer.{Answer}
use Rattle.superpascal.specs.Answers.{answer_of}
use Rattle.superpascal.specs.Runs.{HasTree, ending_of}
use Rattle.superpascal.specs.Traces.{IsStateOf, IsTraceOf}

-- this is the journal of these bytes, which are no more than are loaded
pub record IsJournalOf (bytes : List ℕ) (j : Journal) : Type 0 where
  pub version : Version
  pub text : IsTextOf version j bytes
  pub short : length bytes ≤ 67108864

-- the program of the text on the input with the limits was followed along the journal, with this end and this output
pub record IsReplayOf (text input : List ℕ) (limits : Limits) (j : Journal) (r : Replayed) : Type 0 where
  pub tree : c.Program
  pub has : HasTree text tree
  pub meant : IsFollowed (run_input (without_places tree) input limits) j r

-- it can be followed along the first n entries, and not with the next one
pub record IsUnfitFor (text input : List ℕ) (limits : Limits) (j : Journal) (n : ℕ) : Type 0 where
  pub tree : c.Program
  pub has : HasTree text tree
  pub unfit : IsUnfitAt (run_input (without_places tree) input limits) j.entries n

-- what a replay comes to is told by this ending of the call
abbrev pub ending_of_replay : Option End → Ending
ending_of_replay end = option_map_or ending_of end e.NoEnd

-- ---- texts

-- that the journal was followed, and the lines of the end, or that there is none
abbrev pub replay_notes : Option End → List ℕ
replay_notes end = codes "replayed\n" ++ option_map_or end_text end (codes "no end\n")

-- what is written of a journal that was followed: what the program wrote, the text of the entries, or that of the state
abbrev pub IsWritten : View → List ℕ → List ℕ → Limits → Journal → Replayed → List ℕ → Type 0
IsWritten view.Output text input limits j r out = out ≡ r.output
IsWritten view.Entries text input limits j r out = IsTraceOf text input limits j out
IsWritten view.State text input limits j r out = IsStateOf text input limits j out

-- ---- answers

-- the answer where the journal was followed to this end, and this is written of it
abbrev pub replay_answer : Option End → List ℕ → Answer
replay_answer end out = answer_of (ending_of_replay end) None None (Some out) (replay_notes end)
