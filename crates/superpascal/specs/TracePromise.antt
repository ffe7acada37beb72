-- All of this belongs to what the program promises (docs/promise.txt).
-- What the top call promises of `trace` and `where`, beside what it promises of each command that follows a journal
-- (`Following`). `trace` writes the text of the entries along the journal, each with its place and its message, as the
-- machine makes them with the code of the text; an entry that forks, opens, sends or receives has the place of a
-- statement that does so. `where` writes the text of the state behind the last entry: each process with its place, its
-- calls and its variables; one that waits or joins has the place of a statement that does so.
use Rattle.std.specs.Prelude.{◌≡◌, ℕ, List}
use Rattle.sp_journal.specs.declared.entry.Journal.{Journal}
use Rattle.sp_words.specs.declared.requests.View.TheVariants as view
use Rattle.superpascal.specs.Calls.{WroteAll, Call, IsFinal, OfReplayInput}
use Rattle.superpascal.specs.Replays.{IsJournalOf}
use Rattle.superpascal.specs.Traces.{IsStateOf, IsTraceOf}

-- the bytes are those of a journal, and this text of it was written
pub record Tells (c : Call) (bytes : List ℕ) (IsTextOf : Journal → List ℕ → Type 0) : Type 0 where
  pub journal : Journal
  pub is_journal : IsJournalOf bytes journal
  pub out : List ℕ
  pub is_text : IsTextOf journal out
  pub written : WroteAll c.output out

pub record Tracing (c : Call) : Type 0 where
  pub traced : OfReplayInput c (λ b text bytes input. b.view ≡ view.Entries → IsFinal c.outcome.status
      → Tells c bytes (IsTraceOf text input b.limits))
  pub placed : OfReplayInput c (λ b text bytes input. b.view ≡ view.State → IsFinal c.outcome.status
      → Tells c bytes (IsStateOf text input b.limits))
