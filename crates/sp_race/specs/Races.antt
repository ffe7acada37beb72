-- All of this belongs to what the program promises (docs/promise.txt).
-- Verdicts: what the judge says of a journal and its end. The contract of `verdict_of` promises it, and the top call's
-- causes cite it: ordered, or the least race.
use Rattle.std.specs.Prelude.{◌≡◌, ◌⊎◌, ℕ, ◌<◌, ◌≤◌, true, List, take, Some, slice_get}
use Rattle.sp_journal.specs.declared.entry.Way.{Way}
use Rattle.sp_journal.specs.declared.outcome.End.{End}
use Rattle.sp_journal.specs.declared.outcome.End.TheVariants as end
use Rattle.sp_journal.specs.declared.outcome.Verdict.{Verdict}
use Rattle.sp_journal.specs.declared.outcome.Verdict.TheVariants as verdict
use Rattle.sp_journal.specs.Names.{Name, Channel, chan_name, Offered, Occurrence}
use Rattle.sp_journal.specs.Past.{Knowledge, knowledge_of, AreOrdered}

-- the offer of index i was completed, and p knows the index of its completion
abbrev pub KnowsCompletion : Knowledge → Name → ℕ → Type 0
KnowsCompletion j p i = (m : ℕ) × (j.completed i ≡ Some m) × (j.past p m ≡ true)

-- the entries of these indices are offers of one way on one channel, and the later one's process did not know just
-- before it that the earlier one was completed
pub record Race (es : List Occurrence) (w : Way) (c : Channel) (earlier later : ℕ) : Type 0 where
  pub before : earlier < later
  pub first : Name
  pub offered_first : slice_get es earlier ≡ Some (record { who = first; what = Offered w c })
  pub second : Name
  pub offered_second : slice_get es later ≡ Some (record { who = second; what = Offered w c })
  pub unknown : KnowsCompletion (knowledge_of (take later es)) second earlier → ⊥

-- the least race, by the later and then the earlier index
abbrev pub IsLeastRace : List Occurrence → Way → Channel → ℕ → ℕ → Type 0
IsLeastRace es w c i k = Race es w c i k × ((v : Way) (d : Channel) (x y : ℕ) → Race es v d x y → (k < y)
    ⊎ ((k ≡ y) × (i ≤ x)))

-- a process broke a rule of execution
abbrev pub IsFault : End → Type 0
IsFault (end.Fault p f) = Unit {0}
IsFault _ = ⊥

-- ordered where the order condition holds, and else the least race
abbrev pub IsJudged : List Occurrence → Verdict → Type 0
IsJudged es verdict.Ordered = AreOrdered es
IsJudged es (verdict.Race w c i k) = (AreOrdered es → ⊥) × ((d : Channel) × (c ≡ chan_name d) × IsLeastRace es w d i k)
IsJudged es verdict.Unjudged = ⊥

-- unjudged exactly where the end is a fault
abbrev pub IsVerdict : List Occurrence → End → Verdict → Type 0
IsVerdict es e verdict.Ordered = (IsFault e → ⊥) × IsJudged es verdict.Ordered
IsVerdict es e (verdict.Race w c i k) = (IsFault e → ⊥) × IsJudged es (verdict.Race w c i k)
IsVerdict es e verdict.Unjudged = IsFault e
