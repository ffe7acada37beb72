-- None of this belongs to what the program promises: it is for contracts between crates.
-- What a judge notes beside a run: how many events each process has completed, which events it knows, and which offers
-- were completed. A step never reads these notes. The proof that ordered runs end alike goes by them, over any
-- language.
use Rattle.std.specs.Prelude.{◌≡◌, ℕ, suc, zero, ◌+◌, ◌<◌, Bool, true, false, cond, ◌&&◌, ◌||◌, ◌==◌, List, [], ◌∷◌}
use Rattle.std.specs.Prelude.{length, Option, Some, None}
use Rattle.sp_journal.specs.declared.entry.Way.{Way}
use Rattle.sp_journal.specs.declared.entry.Way.TheVariants as way
use Rattle.sp_journal.specs.Names.{same_way}
use Rattle.sp_meaning.specs.Model.{Name, Channel, same_name, same_channel, Language, Moves, Opens, Forks, Offering}
use Rattle.sp_meaning.specs.Model.{EndsProcess, MeetsFault, State}
use Rattle.sp_meaning.specs.Steps.{ActOf, way_of}

-- the nth event of a process
pub record Event : Type 0 where
  pub who : Name
  pub nth : ℕ

-- the same process's same event
abbrev pub same_event : Event → Event → Bool
same_event a b = same_name a.who b.who && (a.nth == b.nth)

-- what either knows
abbrev pub known_to_either : (Event → Bool) → (Event → Bool) → Event → Bool
known_to_either a b e = a e || b e

pub record JudgeNotes : Type 0 where
  pub events : Name → ℕ
  pub past : Name → Event → Bool
  pub offers : Channel → Way → Event → Bool

-- nothing has happened
abbrev pub no_notes : JudgeNotes
no_notes = record { events = λ p. 0; past = λ p e. false; offers = λ c w e. false }

-- p completes an event; p learns of events; an offer was completed
pub data Note : Type 0 where
  Counts : (p : Name) → Note
  Learns : (p : Name) (known : Event → Bool) → Note
  Records : (c : Channel) (w : Way) (e : Event) → Note

abbrev pub with_judge_note : Note → JudgeNotes → JudgeNotes
with_judge_note (Counts p) n = record n { events = λ q. cond (same_name p q) (n.events q + 1) (n.events q) }
with_judge_note (Learns p known) n =
    record n { past = λ q. cond (same_name p q) (known_to_either (n.past q) known) (n.past q) }
with_judge_note (Records c w e) n = record n {
  offers =
      λ d v. cond (same_channel c d && same_way w v) (known_to_either (n.offers d v) (same_event e)) (n.offers d v);
}

-- the notes, one after another
abbrev pub with_judge_notes : List Note → JudgeNotes → JudgeNotes
with_judge_notes [] n = n
with_judge_notes (x ∷ xs) n = with_judge_notes xs (with_judge_note x n)

-- p's next event
abbrev pub next_event_of : JudgeNotes → Name → Event
next_event_of n p = record { who = p; nth = n.events p }

-- what p knows once its next event is done
abbrev pub known_after_event : JudgeNotes → Name → Event → Bool
known_after_event n p = known_to_either (n.past p) (same_event (next_event_of n p))

-- this many children of fork k, from number i on, learn this
abbrev pub notes_to_children : Name → ℕ → (Event → Bool) → ℕ → ℕ → List Note
notes_to_children p k known i zero = []
notes_to_children p k known i (suc m) = Learns ((k, i) ∷ p) known ∷ notes_to_children p k known (suc i) m

-- the parent of this process learns this. It makes no event before its last child has ended
abbrev pub notes_to_parent : Name → (Event → Bool) → List Note
notes_to_parent [] known = []
notes_to_parent (a ∷ p) known = Learns p known ∷ []

abbrev pub other_way : Way → Way
other_way way.Send = way.Receive
other_way way.Receive = way.Send

-- p's offer completes that of z: both know what both knew, and the two offers
abbrev pub meeting_notes : JudgeNotes → Name → Channel → Way → Name → List Note
meeting_notes n p c w z =
    Records c w (next_event_of n p) ∷ Records c (other_way w) (next_event_of n z) ∷ Counts p ∷ Counts z
    ∷ Learns p (known_to_either (known_after_event n p) (known_after_event n z))
    ∷ Learns z (known_to_either (known_after_event n p) (known_after_event n z)) ∷ []

-- an offer that waits is not completed and adds nothing
abbrev pub offer_notes : JudgeNotes → Name → Channel → Way → Option Name → List Note
offer_notes n p c w None = []
offer_notes n p c w (Some z) = meeting_notes n p c w z

-- what is noted of p's act
abbrev pub notes_of : {L : Language} → State L → JudgeNotes → Name → ActOf L → List Note
notes_of s n p (Moves o ws) = []
notes_of s n p (Opens o ws) = Counts p ∷ Learns p (same_event (next_event_of n p)) ∷ []
notes_of s n p (Forks o os) = Counts p ∷ Learns p (same_event (next_event_of n p))
    ∷ notes_to_children p (s.forks p) (known_after_event n p) 0 (length os)
notes_of s n p (Offering o) = offer_notes n p o.channel (way_of o.payload) (s.pending o.channel)
notes_of s n p EndsProcess = Counts p ∷ Learns p (same_event (next_event_of n p))
    ∷ notes_to_parent p (known_after_event n p)
notes_of s n p (MeetsFault f) = []

-- what is known has happened
abbrev pub IsKnowledge : JudgeNotes → Type 0
IsKnowledge n = (q : Name) (e : Event) → n.past q e ≡ true → e.nth < n.events e.who

-- the order condition at one step: who offers knows of each earlier offer of its way on its channel that it was
-- completed. (Where one is pending, the step is contention)
abbrev pub KnowsBefore : (L : Language) → JudgeNotes → Name → ActOf L → Type 0
KnowsBefore L n p (Offering o) = (e : Event) → n.offers o.channel (way_of o.payload) e ≡ true → n.past p e ≡ true
KnowsBefore L n p (Moves o ws) = Unit {0}
KnowsBefore L n p (Opens o ws) = Unit {0}
KnowsBefore L n p (Forks o os) = Unit {0}
KnowsBefore L n p EndsProcess = Unit {0}
KnowsBefore L n p (MeetsFault f) = Unit {0}
