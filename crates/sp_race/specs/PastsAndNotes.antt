-- None of this belongs to what the program promises: it is for contracts between crates.
-- How the pasts of a journal and the notes beside a run belong together: the induction along both keeps it. The proof
-- that an ordered journal is that of an ordered run rests on it.
use Rattle.std.specs.Prelude.{◌≡◌, ◌⊎◌, ℕ, ◌<◌, Bool, true, false, List, length, Option, Some, None, slice_get}
use Rattle.sp_journal.specs.declared.entry.Way.{Way}
use Rattle.sp_journal.specs.Names.{Offered, Occurrence}
use Rattle.sp_journal.specs.Past.{Knowledge}
use Rattle.sp_meaning.specs.Model.{Name, Channel, Language, Waits, State}
use Rattle.sp_meaning.specs.Steps.{OfferOf, way_of}
use Rattle.sp_race.specs.Notes.{Event, JudgeNotes, next_event_of}

-- an entry of a pause has no event, and nobody knows of it
abbrev pub known_label : (Event → Bool) → Option Event → Bool
known_label f None = false
known_label f (Some e) = f e

-- the pending offer's entry
pub record Pended {L : Language} (s : State L) (v : JudgeNotes) (j : Knowledge) (done : List Occurrence) (n : ℕ)
    (label : ℕ → Option Event) (c : Channel) (z : Name) (w : OfferOf L) : Type 0 where
  pub position : ℕ
  pub pending_is : j.pending c ≡ Some (z, position)
  pub inside : position < n
  pub names : label position ≡ Some (next_event_of v z)
  pub entry : slice_get done position ≡ Some (record { who = z; what = Offered (way_of w.payload) c })

-- the entry of a completed offer
pub record Recorded (done : List Occurrence) (n : ℕ) (label : ℕ → Option Event) (c : Channel) (w : Way) (e : Event) :
    Type 0 where
  pub position : ℕ
  pub who : Name
  pub inside : position < n
  pub names : label position ≡ Some e
  pub entry : slice_get done position ≡ Some (record { who = who; what = Offered w c })

pub record IsPending {L : Language} (s : State L) (v : JudgeNotes) (e : Event) : Type 0 where
  pub who : Name
  pub channel : Channel
  pub pends : s.pending channel ≡ Some who
  pub event_is : e ≡ next_event_of v who

-- what is judged of these n entries, and the state with its notes after the steps that made them; label names the event
-- of each index
pub record NotesMatch {L : Language} (s : State L) (v : JudgeNotes) (j : Knowledge) (done : List Occurrence) (n : ℕ)
    (label : ℕ → Option Event) : Type 0 where
  pub size : length done ≡ n
  pub past : (q : Name) (i : ℕ) → i < n → j.past q i ≡ known_label (v.past q) (label i)
  pub below : (q : Name) (i : ℕ) → j.past q i ≡ true → i < n
  pub pends : (c : Channel) (z : Name) (w : OfferOf L) → s.pending c ≡ Some z → s.condition z ≡ Waits w
      → Pended s v j done n label c z w
  pub free : (c : Channel) → s.pending c ≡ None → j.pending c ≡ None
  pub forks : (q : Name) → j.forks q ≡ s.forks q
  pub apart : (i k : ℕ) → i < n → k < n → (e : Event) → label i ≡ Some e → label k ≡ Some e → i ≡ k
  pub made : (i : ℕ) → i < n → (e : Event) → label i ≡ Some e → (e.nth < v.events e.who) ⊎ IsPending s v e
  pub offers : (c : Channel) (w : Way) (e : Event) → v.offers c w e ≡ true → Recorded done n label c w e
