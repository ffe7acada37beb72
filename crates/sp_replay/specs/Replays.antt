-- None of this belongs to what the program promises: it is for contracts between crates.
-- What following a journal answers: the contract of `replay`. The machine's system along the journal says it, so that a
-- journal is accepted exactly where there is one.
use Rattle.std.specs.Prelude.{◌≡◌, ◌≢◌, ℕ, suc, ◌<◌, List, length, take, Option, Some, None, false, Result, Ok, Err}
use Rattle.sp_cell.specs.Map.{Plain}
use Rattle.sp_journal.specs.declared.entry.Entry.{Entry}
use Rattle.sp_journal.specs.declared.outcome.End.{End}
use Rattle.sp_code.specs.Memory.{CodeRun}
use Rattle.sp_code.specs.PlainStore.{plain}
use Rattle.sp_code.specs.System.{System, IsSystem}
use Rattle.sp_code.specs.Agreement.{phase_in, Running, Finished}
use Rattle.sp_code.specs.OutputHolder.{IsOutputOf}
use Rattle.sp_runner.specs.Ends.{EndsAt}
use Rattle.sp_replay.specs.declared.replayer.Replayed.{Replayed}
use Rattle.sp_replay.specs.declared.replayer.ReplayError.{ReplayError}
use Rattle.sp_replay.specs.declared.replayer.ReplayError.TheVariants as error

-- a process runs, the root has not ended, and no fault stands
pub record GoesOn (s : System Plain) : Type 0 where
  pub no_fault : s.faulted ≡ false
  pub root : phase_in (s.condition 0) ≢ Finished
  pub runs : (q : ℕ) × (phase_in (s.condition q) ≡ Running)

-- the system after a journal is at this end, or goes on
abbrev pub ReplayEndsSo : List Entry → System Plain → Option End → Type 0
ReplayEndsSo es s None = GoesOn s
ReplayEndsSo es s (Some e) = EndsAt es s e

-- there is a system along the whole journal, with this end and this output
pub record ReplayLeadsTo (g : CodeRun) (es : List Entry) (r : Replayed) : Type 0 where
  pub system : System Plain
  pub along : IsSystem plain g es system
  pub end : ReplayEndsSo es system r.end
  pub output : (q : ℕ) × IsOutputOf system q r.output

-- there is one along the first n entries, and none with the next entry
pub record IsUnfitAt (g : CodeRun) (es : List Entry) (n : ℕ) : Type 0 where
  pub inside : n < length es
  pub fits : (s : System Plain) × IsSystem plain g (take n es) s
  pub unfit : (t : System Plain) → IsSystem plain g (take (suc n) es) t → ⊥

-- what following the journal answers
abbrev pub Replays : CodeRun → List Entry → Result Replayed ReplayError → Type 0
Replays g es (Ok r) = ReplayLeadsTo g es r
Replays g es (Err (error.Unfit n)) = IsUnfitAt g es n
Replays g es (Err error.Memory) = Unit {0}
