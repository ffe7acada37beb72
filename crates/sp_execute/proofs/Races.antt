-- What a run's verdict gives to its witness, and what the witness shows.
use Rattle.std.proofs.Common.{◌≡◌, ℕ, ◌<◌, List, length, Option, Some, slice_get, sym, subst}
use Rattle.std.specs.Prelude.{IfSome, ◌↔◌}
use Rattle.sp_base.specs.declared.fault.Fault.TheVariants as fault
use Rattle.sp_base.specs.declared.limits.TheConstants.{TURN_TICKS}
use Rattle.sp_base.specs.declared.name.ChanName.{ChanName}
use Rattle.sp_tree.specs.Interference.{IsFreeOfInterference}
use Rattle.sp_tree.specs.Plain.{Stmt}
use Rattle.sp_journal.specs.declared.entry.Journal.{Journal}
use Rattle.sp_journal.specs.declared.entry.Way.{Way}
use Rattle.sp_journal.specs.declared.outcome.End.{End}
use Rattle.sp_journal.specs.declared.outcome.End.TheVariants as end
use Rattle.sp_journal.specs.declared.outcome.Verdict.{Verdict}
use Rattle.sp_journal.specs.declared.outcome.Verdict.TheVariants as verdict
use Rattle.sp_journal.specs.Births.{IsNameable, occurrences}
use Rattle.sp_journal.specs.Names.{Channel, Occurrence, chan_name, proc_name}
use Rattle.sp_race.specs.Races.{IsFault, IsJudged, IsLeastRace, IsVerdict, Race}
use Rattle.sp_link.specs.Premises.{IsReady}
use Rattle.sp_meaning.specs.Along.{IsAlong, IsClean}
use Rattle.sp_meaning.specs.Ends.{EndIs, EndsSo}
use Rattle.sp_meaning.specs.LocalWork.{RunInput}
use Rattle.sp_meaning.specs.Runs.{StateOf}
use Rattle.sp_race.specs.Prefixes.{WaitersAreSilent}
use Rattle.sp_execute.specs.NumberedJournals.{IsWitness}
use Rattle.sp_witness.specs.Contention.{NeverContends}
use Rattle.sp_witness.specs.TableNumbers.{IsPlain}
use Rattle.sp_witness.specs.OccurrenceNumbers.{witness_journal}
use Rattle.sp_witness.specs.Witness.{who_at, witness}
use Rattle.sp_execute.specs.declared.execution.Ran.{Ran}
use Rattle.sp_execute.specs.Runs.{Executes}
use Rattle.sp_execute.specs.Witnesses.{IsFollowedToFault, IsReadyRun, ShowsRace}

-- ---- of a run

-- the laws of runs, and of witnesses
abbrev pub CleanLaw : Type 0
CleanLaw = (g : RunInput) (turn : ℕ) (es : List Occurrence) (n : ℕ) (t : StateOf g) (e : End)
    → IsAlong g turn es n t → EndIs g t e → (IsFault e → ⊥) → IsClean es

abbrev pub WitnessLaw : Type 0
WitnessLaw = (g : RunInput) (moves shares : Stmt → List ℕ) (turn : ℕ) → IsReady g moves shares
    → (j : Journal) (n : ℕ) (t : StateOf g) → IsAlong g turn (occurrences j) n t → IsClean (occurrences j)
    → (w : Way) (c : Channel) (earlier later : ℕ)
    → IsLeastRace (occurrences j) w c earlier later → IsWitness g turn j w c earlier later

abbrev pub ContentionLaw : Type 0
ContentionLaw = (g : RunInput) (moves shares : Stmt → List ℕ) (turn : ℕ) → IsReady g moves shares
    → (j : Journal) (n : ℕ) (t : StateOf g) → IsAlong g turn (occurrences j) n t → IsClean (occurrences j)
    → (w : Way) (c : Channel) (earlier later : ℕ) → IsLeastRace (occurrences j) w c earlier later
    → (m : ℕ) (u : StateOf g) → IsAlong g turn (occurrences (witness_journal j earlier later)) m u
    → (e : Option End) → EndsSo g u e
    → e ≡ Some (end.Fault (proc_name (who_at (occurrences j) later)) fault.F6)

abbrev pub OrderedLaw : Type 0
OrderedLaw = (g : RunInput) (turn : ℕ) (es : List Occurrence) (n : ℕ) (t : StateOf g) (e : End) (v : Verdict)
    → IsFreeOfInterference g.program → IsAlong g turn es n t → EndIs g t e → (IsFault e → ⊥) → IsVerdict es e v
    → (v ≡ verdict.Ordered) ↔ NeverContends g

abbrev pub SilentWaitersLaw : Type 0
SilentWaitersLaw = (g : RunInput) (turn : ℕ) (es : List Occurrence) (n : ℕ) (t : StateOf g) → IsAlong g turn es n t
    → WaitersAreSilent es

abbrev pub OffersLaw : Type 0
OffersLaw = (j : Journal) (w : Way) (c : Channel) (earlier later : ℕ) → Race (occurrences j) w c earlier later
    → (earlier < later) × (later < length j.entries) × IfSome (slice_get j.entries earlier) (λ e. IsPlain e.event)

-- what the call that makes a witness asks of the journal and of the indices of its two offers
pub record CanShow (j : Journal) (earlier later : ℕ) : Type 0 where
  pub silent : WaitersAreSilent (occurrences j)
  pub clean : IsClean (occurrences j)
  pub inside : later < length j.entries
  pub offer : IfSome (slice_get j.entries earlier) (λ e. IsPlain e.event)
  pub nameable : IsNameable (witness_journal j earlier later)
  pub names : occurrences (witness_journal j earlier later) ≡ witness (occurrences j) earlier later

-- the race that a verdict names
verdict_race : (es : List Occurrence) (e : End) (v : Verdict) (w : Way) (c : ChanName) (earlier later : ℕ)
    → v ≡ verdict.Race w c earlier later → IsVerdict es e v
    → IsVerdict es e (verdict.Race w c earlier later)
verdict_race es e v w c earlier later h is = subst (IsVerdict es e) h is

module _ (g : RunInput) (moves shares : Stmt
    → List ℕ) (workers : ℕ) (r : Ran) (ready : IsReady g moves shares) (x : Executes g workers r)
    (clean : CleanLaw) (witnesses : WitnessLaw) where
  abbrev names : List Occurrence
  names = occurrences r.closed.journal

  -- of the two offers of its race
  module _ (w : Way) (c : ChanName) (earlier later : ℕ) (is : r.verdict ≡ verdict.Race w c earlier later) where
    pub named : IsVerdict names r.closed.end (verdict.Race w c earlier later)
    named = verdict_race names r.closed.end r.verdict w c earlier later is x.verdict

    abbrev judged : IsJudged names (verdict.Race w c earlier later)
    judged = named.1

    abbrev race : (d : Channel) × (c ≡ chan_name d) × IsLeastRace names w d earlier later
    race = judged.1

    abbrev pub channel : Channel
    channel = race.0

    pub channel_is : c ≡ chan_name channel
    channel_is = race.1

    least : IsLeastRace names w channel earlier later
    least = race.2

    pub is_clean : IsClean names
    is_clean = clean g TURN_TICKS names x.about.steps x.about.state r.closed.end x.about.along x.about.end named.0

    pub is_witness : IsWitness g TURN_TICKS r.closed.journal w channel earlier later
    is_witness = witnesses g moves shares TURN_TICKS ready r.closed.journal x.about.steps x.about.state x.about.along
        is_clean w channel earlier later least

    pub offers : OffersLaw → (earlier < later) × (later < length r.closed.journal.entries)
        × IfSome (slice_get r.closed.journal.entries earlier) (λ e. IsPlain e.event)
    offers law = law r.closed.journal w channel earlier later least.0

    pub can_show : SilentWaitersLaw → OffersLaw → CanShow r.closed.journal earlier later
    can_show silent law = record {
      silent = silent g TURN_TICKS names x.about.steps x.about.state x.about.along;
      clean = is_clean;
      inside = (offers law).1;
      offer = (offers law).2;
      nameable = is_witness.nameable;
      names = is_witness.names;
    }

    pub followed_to_fault : ContentionLaw → IsFollowedToFault g r.closed.journal earlier later
    followed_to_fault contention = record {
      followed = (
        is_witness.shows.size,
        is_witness.shows.state,
        subst (λ os. IsAlong g TURN_TICKS os is_witness.shows.size is_witness.shows.state)
            (sym is_witness.names) is_witness.shows.along,
      );
      ends = λ s f.
          contention g moves shares TURN_TICKS ready r.closed.journal x.about.steps x.about.state x.about.along is_clean
          w channel earlier later least
          f.steps f.state f.along s.end f.end;
    }

  pub shows_race : OrderedLaw → ShowsRace g r
  shows_race ordered = record {
    witness = λ w c earlier later is. (
      channel w c earlier later is,
      channel_is w c earlier later is,
      is_witness w c earlier later is,
    );
    ordered = λ no. ordered g TURN_TICKS names x.about.steps x.about.state r.closed.end r.verdict ready.free
        x.about.along x.about.end no x.verdict;
  }

-- of a run of a program that is ready, and its journal as the call reads it
pub can_show_of : CleanLaw → WitnessLaw → SilentWaitersLaw → OffersLaw → (r : Ran) → IsReadyRun r
    → (w : Way) (c : ChanName) (earlier later : ℕ) → r.verdict ≡ verdict.Race w c earlier later
    → (j : Journal) → j ≡ r.closed.journal → CanShow j earlier later
can_show_of clean witnesses silent law r (g, moves, shares, workers, ready, x) w c earlier later is j same =
    subst (λ k. CanShow k earlier later) (sym same)
    (can_show g moves shares workers r ready x clean witnesses w c earlier later is silent law)
