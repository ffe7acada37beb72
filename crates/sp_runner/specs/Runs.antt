-- None of this belongs to what the program promises: it is for contracts between crates.
-- What a run by so many workers is: the contract of `run`. It names a history that exists and no schedule, since
-- threads may come in any order.
use Rattle.std.specs.Prelude.{◌≡◌, ◌<◌, ◌≤◌, ℕ, List, [], None}
use Rattle.sp_journal.specs.declared.entry.Note.{Note}
use Rattle.sp_journal.specs.Queue.{IsFirstInFirstOut}
use Rattle.sp_code.specs.Control.{entries_of}
use Rattle.sp_code.specs.Memory.{CodeRun}
use Rattle.sp_code.specs.PlainStore.{plain}
use Rattle.sp_code.specs.System.{IsLegal}
use Rattle.sp_code.specs.WorkerHistory.{OneByOne}
use Rattle.sp_room.specs.History.{notes_by}
use Rattle.sp_kernel.specs.declared.closed.Closed.{Closed}
use Rattle.sp_runner.specs.Ends.{EndsWith}

-- the notes of worker w
abbrev pub notes_of_worker : ℕ → List Note → List Note
notes_of_worker w ns = notes_by (λ (n : Note). n.worker) w ns

-- the journal is that of a legal history of the kernel, which is made of the calls of the workers: each of them gives
-- what its call before got. The machine along that journal is at that end, with that output. The journal of one worker
-- is first in, first out
pub record IsRun (g : CodeRun) (workers : ℕ) (c : Closed) : Type 0 where
  pub notes : List Note
  pub legal : IsLegal plain g notes
  pub journal : c.journal.entries ≡ entries_of notes
  pub calls : (w : ℕ) → w < workers → OneByOne None (notes_of_worker w notes)
  pub others : (w : ℕ) → workers ≤ w → notes_of_worker w notes ≡ []
  pub gives : EndsWith g c.journal.entries c.end c.output
  pub in_turn : workers ≡ 1 → IsFirstInFirstOut c.journal
