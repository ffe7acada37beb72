-- All of this belongs to what the program promises (docs/promise.txt).
-- What the top call promises of the commands that follow a journal, `replay`, `trace` and `where`: it is followed
-- exactly where the meaning of the program is defined along it, to its end, and `replay` writes its output; else the
-- first thing that is wrong with it is named, and status 9 comes of nothing else.
use Rattle.std.specs.Prelude.{◌≡◌, ◌⊎◌, ℕ, ◌<◌, ◌≤◌, List, Some, IfSome, length}
use Rattle.sp_execute.specs.Follows.{IsFollowed, IsMeant, IsUnfitAt}
use Rattle.sp_execute.specs.Runs.{run_input}
use Rattle.sp_front.specs.Checks.{IsProgramOf}
use Rattle.sp_journal.specs.declared.entry.Journal.{Journal}
use Rattle.sp_journal.specs.ReadAnswers.{IsText}
use Rattle.sp_journal.specs.Texts.{IsFirstBad}
use Rattle.sp_outside.specs.Visible.{IsAtEnd}
use Rattle.sp_replay.specs.declared.replayer.Replayed.{Replayed}
use Rattle.sp_tree.specs.Plain.{Program}
use Rattle.sp_words.specs.Words.{command_of}
use Rattle.sp_words.specs.declared.requests.View.TheVariants as view
use Rattle.sp_words.specs.declared.requests.ReplayRequest.{ReplayRequest}
use Rattle.sp_words.specs.declared.command.Command.TheVariants as command
use Rattle.superpascal.specs.declared.ending.Ending.TheVariants as e
use Rattle.superpascal.specs.Answers.{status_of}
use Rattle.superpascal.specs.Calls.{WroteAll, Call, IsFinal, IsOutside, OfReplay, OfReplayInput, SaysEnding}
use Rattle.superpascal.specs.Causes.{HasRead}
use Rattle.superpascal.specs.Replays.{IsJournalOf, IsUnfitFor, ending_of_replay, replay_notes}
use Rattle.superpascal.specs.Texts.{IsAcceptedText}

-- the status tells the end, the notes and the output of `replay` were written, and nothing is left of the input
pub record PrintsReplay (c : Call) (b : ReplayRequest) (r : Replayed) : Type 0 where
  pub status : c.outcome.status ≡ status_of (ending_of_replay r.end)
  pub output : b.view ≡ view.Output → WroteAll c.output r.output
  pub notes : WroteAll c.notes (replay_notes r.end)
  pub at_end : IsAtEnd c.source.left'

-- the bytes are those of a journal along which the meaning of the text's program on the input is defined, with this
-- output and end
pub record IsMeantAlong (b : ReplayRequest) (text bytes input : List ℕ) (r : Replayed) : Type 0 where
  pub journal : Journal
  pub is_journal : IsJournalOf bytes journal
  pub program : Program
  pub is_program : IsProgramOf text program
  pub followed : IsFollowed (run_input program input b.limits) journal r

-- no journal is read from these bytes
abbrev pub IsNoJournal : List ℕ → Type 0
IsNoJournal bytes = (67108864 < length bytes) ⊎ (IsText bytes → ⊥)

pub record Following (c : Call) : Type 0 where
  -- what is told of a journal that was followed is what the program means along it
  pub followed : OfReplayInput c (λ b text bytes input. IsFinal c.outcome.status → (r : Replayed)
      × IsMeantAlong b text bytes input r × PrintsReplay c b r)
  -- a journal is followed wherever the meaning is defined along it
  pub accepted : OfReplayInput c (λ b text bytes input. IsAcceptedText text → length input ≤ 16777216 → (p : Program)
      → IsProgramOf text p → (j : Journal) → IsJournalOf bytes j → IsMeant (run_input p input b.limits) j.entries
      → IsFinal c.outcome.status ⊎ IsOutside c.outcome.status)
  -- else the first entry is named with which it is not defined
  pub unfit : OfReplayInput c (λ b text bytes input. IsAcceptedText text → length input ≤ 16777216 → (p : Program)
      → IsProgramOf text p → (j : Journal) → IsJournalOf bytes j → (n : ℕ)
      → IsUnfitAt (run_input p input b.limits) j.entries n → SaysEnding c (e.Unfit n))
  -- of bytes that are the text of no journal, the first line is named that is not the text of a next entry
  pub bad : OfReplay c (λ b text bytes. IsAcceptedText text → length bytes ≤ 67108864 → (IsText bytes → ⊥)
      → ((n : ℕ) × IsFirstBad n bytes × SaysEnding c (e.BadJournal n)) ⊎ IsOutside c.outcome.status)
  -- a journal that is too long is not read
  pub long : OfReplay c (λ b text bytes. IsAcceptedText text → 67108864 < length bytes → SaysEnding c e.LongJournal)
  -- 9: the text breaks no rule, and no journal is read, or all was read and an entry does not fit
  pub only : c.outcome.status ≡ 9 → (b : ReplayRequest) × (command_of c.words ≡ Some (command.Replay b))
      × IfSome (c.files.held b.file) IsAcceptedText
      × (IfSome (c.files.held b.journal) IsNoJournal
      ⊎ ((h : HasRead c.files c.source b) × (n : ℕ) × IsUnfitFor h.text h.input b.limits h.journal n))
