-- Some of this belongs to what the program promises (docs/promise.txt).
-- What the witness of a run's race is, and what it shows. The contract of `witness` and the law `races_are_shown`
-- promise it, and the contract of the top call cites both.
use Rattle.std.specs.Prelude.{◌≡◌, ◌↔◌, ℕ, List, Option, Some, None}
use Rattle.sp_base.specs.declared.fault.Fault.TheVariants as fault
use Rattle.sp_base.specs.declared.limits.TheConstants.{TURN_TICKS}
use Rattle.sp_base.specs.declared.name.ChanName.{ChanName}
use Rattle.sp_tree.specs.Plain.{Stmt}
use Rattle.sp_journal.specs.declared.entry.Journal.{Journal}
use Rattle.sp_journal.specs.declared.entry.Way.{Way}
use Rattle.sp_journal.specs.declared.outcome.End.TheVariants as end
use Rattle.sp_journal.specs.declared.outcome.Verdict.{Verdict}
use Rattle.sp_journal.specs.declared.outcome.Verdict.TheVariants as verdict
use Rattle.sp_journal.specs.Births.{occurrences}
use Rattle.sp_journal.specs.Names.{Channel, chan_name, proc_name}
use Rattle.sp_race.specs.Races.{IsFault}
use Rattle.sp_link.specs.Premises.{IsReady}
use Rattle.sp_meaning.specs.LocalWork.{RunInput}
use Rattle.sp_execute.specs.NumberedJournals.{IsWitness}
use Rattle.sp_replay.specs.declared.replayer.Replayed.{Replayed}
use Rattle.sp_witness.specs.Contention.{NeverContends}
use Rattle.sp_witness.specs.OccurrenceNumbers.{witness_journal}
use Rattle.sp_witness.specs.Witness.{who_at}
use Rattle.sp_execute.specs.declared.execution.Ran.{Ran}
use Rattle.sp_execute.specs.Follows.{IsFollowed, IsMeant}
use Rattle.sp_execute.specs.Runs.{Executes}

-- the witness of the race that a verdict on a journal names, if it names one
abbrev pub witness_of : Verdict → Journal → Option Journal
witness_of (verdict.Race w c earlier later) j = Some (witness_journal j earlier later)
witness_of _ j = None

-- it is a run of a program that is ready for its code
abbrev pub IsReadyRun : Ran → Type 0
IsReadyRun r = (g : RunInput) × (moves : Stmt → List ℕ) × (shares : Stmt → List ℕ) × (workers : ℕ)
    × IsReady g moves shares × Executes g workers r

-- the witness of these two offers is followed, to the fault F6 of the later offer's process
pub record IsFollowedToFault (g : RunInput) (j : Journal) (earlier later : ℕ) : Type 0 where
  pub followed : IsMeant g (witness_journal j earlier later).entries
  pub ends : (s : Replayed) → IsFollowed g (witness_journal j earlier later) s
      → s.end ≡ Some (end.Fault (proc_name (who_at (occurrences j) later)) fault.F6)

-- What the verdict on a run says of the program. The witness of the race that it names is a journal of the program, to
-- the fault F6 of the later offer as it meets the pending earlier one, of the same way on the same channel. And a run
-- that ends without a fault is ordered exactly where no lawful schedule of the program, on this input and with these
-- limits, meets contention.
pub record ShowsRace (g : RunInput) (r : Ran) : Type 0 where
  pub witness : (w : Way) (c : ChanName) (earlier later : ℕ) → r.verdict ≡ verdict.Race w c earlier later
      → (d : Channel) × (c ≡ chan_name d) × IsWitness g TURN_TICKS r.closed.journal w d earlier later
  pub ordered : (IsFault r.closed.end → ⊥) → (r.verdict ≡ verdict.Ordered) ↔ NeverContends g
