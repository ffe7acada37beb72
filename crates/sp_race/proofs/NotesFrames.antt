-- What a step's notes are of, that all else stays, and that notes of two steps commute.
use Rattle.std.proofs.Common.{◌≡◌, ◌⊎◌, ⊎_elim, inl, inr, ℕ, suc, zero, ◌+◌, ◌<◌, ◌≤◌, le_refl, le_trans}
use Rattle.std.proofs.Common.{lt_of_lt_of_le, lt_of_le_of_lt, Bool, true, false, cond, ◌&&◌, ◌||◌, ◌==◌, List, [], ◌∷◌}
use Rattle.std.proofs.Common.{length, Option, Some, None, eqb-true, eq-eqb, refl, sym, ap, ◌∙◌, subst, arith}
use Rattle.std.proofs.Math.Path.{fun_ext}
use Rattle.std.proofs.lemmas.Bool.{and_from, or_cases}
use Rattle.sp_base.proofs.Facts.{first_true, second_true, or_with_true}
use Rattle.sp_journal.specs.declared.entry.Way.{Way}
use Rattle.sp_journal.specs.Names.{same_way}
use Rattle.sp_meaning.specs.Maps.{IsTest}
use Rattle.sp_meaning.specs.Model.{Name, Channel, same_name, same_channel, Language, Moves, Opens, Forks, Offering}
use Rattle.sp_meaning.specs.Model.{EndsProcess, MeetsFault, State}
use Rattle.sp_meaning.specs.Steps.{ActOf, OfferOf, way_of}
use Rattle.sp_meaning.proofs.Maps.{differs}
use Rattle.sp_meaning.proofs.Keys.{name_test, channel_test}
use Rattle.sp_meaning.proofs.Frames.{IsOn, IsPartner, IsChild, IsNear}
use Rattle.sp_meaning.proofs.Status.{IsParent}
use Rattle.sp_race.specs.Notes.{Event, same_event, known_to_either, JudgeNotes, Note, Counts, Learns, Records}
use Rattle.sp_race.specs.Notes.{with_judge_note, with_judge_notes, next_event_of}
use Rattle.sp_race.specs.Notes.{known_after_event, notes_to_children, notes_to_parent, other_way, meeting_notes}
use Rattle.sp_race.specs.Notes.{offer_notes, notes_of, IsKnowledge}

pub event_test : IsTest same_event
event_test a b = (
  λ h. let o : a.who ≡ b.who = (name_test a.who b.who).0 (first_true (same_name a.who b.who) (a.nth == b.nth) h) in
      let n : a.nth ≡ b.nth = eqb-true a.nth b.nth (second_true (same_name a.who b.who) (a.nth == b.nth) h) in
      λ i. record { who = o i; nth = n i },
  λ e. and_from (same_name a.who b.who) (a.nth == b.nth) ((name_test a.who b.who).1 (ap (λ (c : Event). c.who) e))
      (eq-eqb a.nth b.nth (ap (λ (c : Event). c.nth) e)),
)

-- Notes only add, so any two commute

pub or_comm : (a b : Bool) → a || b ≡ b || a
or_comm true true = refl
or_comm true false = refl
or_comm false true = refl
or_comm false false = refl

or_swap : (a b c : Bool) → (a || b) || c ≡ (a || c) || b
or_swap true b c = refl
or_swap false true true = refl
or_swap false true false = refl
or_swap false false true = refl
or_swap false false false = refl

counts_swap : (b c : Bool) (n : ℕ) → cond b (cond c (n + 1) n + 1) (cond c (n + 1) n)
    ≡ cond c (cond b (n + 1) n + 1) (cond b (n + 1) n)
counts_swap true true n = refl
counts_swap true false n = refl
counts_swap false true n = refl
counts_swap false false n = refl

learns_swap : (b c : Bool) (k a1 a2 : Event → Bool)
    → cond b (known_to_either (cond c (known_to_either k a2) k) a1) (cond c (known_to_either k a2) k)
    ≡ cond c (known_to_either (cond b (known_to_either k a1) k) a2) (cond b (known_to_either k a1) k)
learns_swap true true k a1 a2 = fun_ext (λ e. or_swap (k e) (a2 e) (a1 e))
learns_swap true false k a1 a2 = refl
learns_swap false true k a1 a2 = refl
learns_swap false false k a1 a2 = refl

pub notes_swap : (a b : Note) (n : JudgeNotes) → with_judge_note a (with_judge_note b n)
    ≡ with_judge_note b (with_judge_note a n)
notes_swap (Counts p) (Counts q) n = λ i. record n
    { events = λ r. counts_swap (same_name p r) (same_name q r) (n.events r) i }
notes_swap (Learns p a) (Learns q b) n = λ i. record n
    { past = λ r. learns_swap (same_name p r) (same_name q r) (n.past r) a b i }
notes_swap (Records c w e) (Records d v f) n =
    λ i. record n {
      offers = λ x y. learns_swap (same_channel c x && same_way w y) (same_channel d x && same_way v y)
          (n.offers x y) (same_event e) (same_event f) i;
    }
notes_swap (Counts p) (Learns q b) n = refl
notes_swap (Counts p) (Records d v f) n = refl
notes_swap (Learns p a) (Counts q) n = refl
notes_swap (Learns p a) (Records d v f) n = refl
notes_swap (Records c w e) (Counts q) n = refl
notes_swap (Records c w e) (Learns q b) n = refl

one_later : (a : Note) (ys : List Note) (n : JudgeNotes) → with_judge_notes ys (with_judge_note a n)
    ≡ with_judge_note a (with_judge_notes ys n)
one_later a [] n = refl
one_later a (b ∷ ys) n = ap (with_judge_notes ys) (sym (notes_swap a b n)) ∙ one_later a ys (with_judge_note b n)

pub all_notes_swap : (xs ys : List Note) (n : JudgeNotes) → with_judge_notes ys (with_judge_notes xs n)
    ≡ with_judge_notes xs (with_judge_notes ys n)
all_notes_swap [] ys n = refl
all_notes_swap (a ∷ xs) ys n = all_notes_swap xs ys (with_judge_note a n) ∙ ap (with_judge_notes xs) (one_later a ys n)

-- What p's step may note

abbrev pub IsNoteIn : {L : Language} → State L → Name → ActOf L → Note → Type 0
IsNoteIn s p a (Counts r) = IsNear s p a r
IsNoteIn s p a (Learns r known) = IsNear s p a r ⊎ IsParent r p
IsNoteIn s p a (Records c w e) = IsOn a c

abbrev pub AllNotesIn : {L : Language} → State L → Name → ActOf L → List Note → Type 0
AllNotesIn s p a [] = Unit {0}
AllNotesIn s p a (x ∷ xs) = IsNoteIn s p a x × AllNotesIn s p a xs

teaches_in : {L : Language} (s : State L) (p : Name) (o : L.Own) (all : List L.Own) (known : Event → Bool) (i m : ℕ)
    → i + m ≡ length all → AllNotesIn s p (Forks o all) (notes_to_children p (s.forks p) known i m)
teaches_in s p o all known i zero e = tt
teaches_in s p o all known i (suc m) e =
    let c : IsChild s p (Forks o all) ((s.forks p, i) ∷ p) = (i, refl, omega (arith, e)) in
    (inl (inr (inr c)), teaches_in s p o all known (suc i) m (omega (arith, e)))

tells_in : {L : Language} (s : State L) (p : Name) (known : Event → Bool)
    → AllNotesIn s p EndsProcess (notes_to_parent p known)
tells_in s [] known = tt
tells_in s (a ∷ p) known = (inr (a, refl), tt)

offer_in : {L : Language} (s : State L) (n : JudgeNotes) (p : Name) (o : OfferOf L) (m : Option Name)
    → s.pending o.channel ≡ m → AllNotesIn s p (Offering o) (offer_notes n p o.channel (way_of o.payload) m)
offer_in s n p o None e = tt
offer_in s n p o (Some z) e = (refl, (refl, (inl refl, (inr (inl e), (inl (inl refl), (inl (inr (inl e)), tt))))))

pub notes_in : {L : Language} (s : State L) (n : JudgeNotes) (p : Name) (a : ActOf L)
    → AllNotesIn s p a (notes_of s n p a)
notes_in s n p (Moves o ws) = tt
notes_in s n p (Opens o ws) = (inl refl, (inl (inl refl), tt))
notes_in s n p (Forks o os) =
    (inl refl, (inl (inl refl), teaches_in s p o os (known_after_event n p) 0 (length os) (omega arith)))
notes_in s n p (Offering o) = offer_in s n p o (s.pending o.channel) refl
notes_in s n p EndsProcess = (inl refl, (inl (inl refl), tells_in s p (known_after_event n p)))
notes_in s n p (MeetsFault f) = tt

module _ {L : Language} (s : State L) (p : Name) (a : ActOf L) where
  pub events_frame : (r : Name) → (IsNear s p a r → ⊥) → (xs : List Note) (n : JudgeNotes) → AllNotesIn s p a xs
      → (with_judge_notes xs n).events r ≡ n.events r
  events_frame r out [] n h = refl
  events_frame r out (Counts q ∷ xs) n h = events_frame r out xs (with_judge_note (Counts q) n) h.1
      ∙ rw (differs name_test q r (λ e. out (subst (IsNear s p a) e h.0))) refl
  events_frame r out (Learns q k ∷ xs) n h = events_frame r out xs (with_judge_note (Learns q k) n) h.1
  events_frame r out (Records c w e ∷ xs) n h = events_frame r out xs (with_judge_note (Records c w e) n) h.1

  pub past_frame : (r : Name) → (IsNear s p a r → ⊥) → (IsParent r p → ⊥) → (xs : List Note) (n : JudgeNotes)
      → AllNotesIn s p a xs → (with_judge_notes xs n).past r ≡ n.past r
  past_frame r out above [] n h = refl
  past_frame r out above (Counts q ∷ xs) n h = past_frame r out above xs (with_judge_note (Counts q) n) h.1
  past_frame r out above (Learns q k ∷ xs) n h = past_frame r out above xs (with_judge_note (Learns q k) n) h.1
      ∙ rw (differs name_test q r (λ e. ⊎_elim (λ (x : IsNear s p a q). out (subst (IsNear s p a) e x))
      (λ (x : IsParent q p). above (subst (λ z. IsParent z p) e x)) h.0)) refl
  past_frame r out above (Records c w e ∷ xs) n h = past_frame r out above xs (with_judge_note (Records c w e) n) h.1

  pub offers_frame : (d : Channel) (v : Way) → (IsOn a d → ⊥) → (xs : List Note) (n : JudgeNotes) → AllNotesIn s p a xs
      → (with_judge_notes xs n).offers d v ≡ n.offers d v
  offers_frame d v out [] n h = refl
  offers_frame d v out (Counts q ∷ xs) n h = offers_frame d v out xs (with_judge_note (Counts q) n) h.1
  offers_frame d v out (Learns q k ∷ xs) n h = offers_frame d v out xs (with_judge_note (Learns q k) n) h.1
  offers_frame d v out (Records c w e ∷ xs) n h = offers_frame d v out xs (with_judge_note (Records c w e) n) h.1
      ∙ rw (differs channel_test c d (λ x. out (subst (IsOn a) x h.0))) refl

abbrev meeting_at : Name → Channel → Way → Name → ℕ → ℕ → (Event → Bool) → (Event → Bool) → List Note
meeting_at q c w z nq nz kq kz =
    Records c w (record { who = q; nth = nq }) ∷ Records c (other_way w) (record { who = z; nth = nz }) ∷ Counts q
    ∷ Counts z
    ∷ Learns q (known_to_either (known_to_either kq (same_event (record { who = q; nth = nq })))
    (known_to_either kz (same_event (record { who = z; nth = nz }))))
    ∷ Learns z (known_to_either (known_to_either kq (same_event (record { who = q; nth = nq })))
    (known_to_either kz (same_event (record { who = z; nth = nz })))) ∷ []

-- what is noted of an act goes by these parts alone
pub notes_same : {L : Language} (t s : State L) (m n : JudgeNotes) (q : Name) (b : ActOf L) → t.forks q ≡ s.forks q
    → m.events q ≡ n.events q → m.past q ≡ n.past q
    → ((c : Channel) → IsOn b c → t.pending c ≡ s.pending c)
    → ((z : Name) → IsPartner s b z → (m.events z ≡ n.events z) × (m.past z ≡ n.past z))
    → notes_of t m q b ≡ notes_of s n q b
notes_same t s m n q (Moves o ws) f e k pe other = refl
notes_same t s m n q (Opens o ws) f e k pe other = λ i. Counts q ∷ Learns q (same_event (record { who = q; nth = e i }))
    ∷ []
notes_same t s m n q (Forks o os) f e k pe other = λ i. Counts q ∷ Learns q (same_event (record { who = q; nth = e i }))
    ∷ notes_to_children q (f i) (known_to_either (k i) (same_event (record { who = q; nth = e i }))) 0 (length os)
notes_same t s m n q (Offering o) f e k pe other = ap (offer_notes m q o.channel (way_of o.payload)) (pe o.channel refl)
    ∙ offered (s.pending o.channel) refl
  where
    offered : (x : Option Name) → s.pending o.channel ≡ x
        → offer_notes m q o.channel (way_of o.payload) x ≡ offer_notes n q o.channel (way_of o.payload) x
    offered None h = refl
    offered (Some z) h = let y = other z h in λ i. meeting_at q o.channel (way_of o.payload) z (e i) (y.0 i) (k i)
        (y.1 i)
notes_same t s m n q EndsProcess f e k pe other = λ i. Counts q ∷ Learns q (same_event (record { who = q; nth = e i }))
    ∷ notes_to_parent q (known_to_either (k i) (same_event (record { who = q; nth = e i })))
notes_same t s m n q (MeetsFault f) g e k pe other = refl

-- What only grows

grows : (b : Bool) (n : ℕ) → n ≤ cond b (n + 1) n
grows true n = omega arith
grows false n = le_refl n

pub events_grow : (xs : List Note) (n : JudgeNotes) (r : Name) → n.events r ≤ (with_judge_notes xs n).events r
events_grow [] n r = le_refl _
events_grow (Counts q ∷ xs) n r =
    le_trans (grows (same_name q r) (n.events r)) (events_grow xs (with_judge_note (Counts q) n) r)
events_grow (Learns q k ∷ xs) n r = events_grow xs (with_judge_note (Learns q k) n) r
events_grow (Records c w e ∷ xs) n r = events_grow xs (with_judge_note (Records c w e) n) r

-- what two know together
pub both_kept : (b : Bool) (f g : Event → Bool) (e : Event) → f e ≡ true → cond b (known_to_either f g) f e ≡ true
both_kept true f g e h = rw h refl
both_kept false f g e h = h

pub both_right : (b : Bool) (f g : Event → Bool) (e : Event) → b ≡ true → g e ≡ true
    → cond b (known_to_either f g) f e ≡ true
both_right true f g e k h = rw h (or_with_true (f e))
both_right false f g e k h = absurd (cc k)

pub offers_grow : (xs : List Note) (n : JudgeNotes) (d : Channel) (v : Way) (e : Event) → n.offers d v e ≡ true
    → (with_judge_notes xs n).offers d v e ≡ true
offers_grow [] n d v e h = h
offers_grow (Counts q ∷ xs) n d v e h = offers_grow xs (with_judge_note (Counts q) n) d v e h
offers_grow (Learns q k ∷ xs) n d v e h = offers_grow xs (with_judge_note (Learns q k) n) d v e h
offers_grow (Records c w x ∷ xs) n d v e h =
    offers_grow xs (with_judge_note (Records c w x) n) d v e
    (both_kept (same_channel c d && same_way w v) (n.offers d v) (same_event x) e h)

abbrev pub HasCount : Name → List Note → Type 0
HasCount p [] = ⊥
HasCount p (Counts q ∷ xs) = (q ≡ p) ⊎ HasCount p xs
HasCount p (Learns q k ∷ xs) = HasCount p xs
HasCount p (Records c w e ∷ xs) = HasCount p xs

pub counted : (xs : List Note) (n : JudgeNotes) (p : Name) → HasCount p xs
    → n.events p < (with_judge_notes xs n).events p
counted [] n p h = absurd h
counted (Counts q ∷ xs) n p h = ⊎_elim
    (λ (e : q ≡ p). lt_of_lt_of_le (one (same_name q p) ((name_test q p).1 e))
    (events_grow xs (with_judge_note (Counts q) n) p))
    (λ (k : HasCount p xs). lt_of_le_of_lt (grows (same_name q p) (n.events p))
    (counted xs (with_judge_note (Counts q) n) p k))
    h
  where
    one : (b : Bool) → b ≡ true → n.events p < cond b (n.events p + 1) (n.events p)
    one true h = omega arith
    one false h = absurd (cc h)
counted (Learns q k ∷ xs) n p h = counted xs (with_judge_note (Learns q k) n) p h
counted (Records c w e ∷ xs) n p h = counted xs (with_judge_note (Records c w e) n) p h

-- What is learned has happened

abbrev AllLearn : (Name → ℕ) → List Note → Type 0
AllLearn m [] = Unit {0}
AllLearn m (Learns r k ∷ xs) = ((e : Event) → k e ≡ true → e.nth < m e.who) × AllLearn m xs
AllLearn m (Counts r ∷ xs) = AllLearn m xs
AllLearn m (Records c w e ∷ xs) = AllLearn m xs

learn_all : (m : Name → ℕ) (xs : List Note) (n : JudgeNotes) → AllLearn m xs
    → ((q : Name) (e : Event) → n.past q e ≡ true → e.nth < m e.who) → (q : Name) (e : Event)
    → (with_judge_notes xs n).past q e ≡ true → e.nth < m e.who
learn_all m [] n h k q e x = k q e x
learn_all m (Learns r known ∷ xs) n h k q e x =
    learn_all m xs (with_judge_note (Learns r known) n) h.1 (λ y f. either (same_name r y) y f) q e x
  where
    either : (b : Bool) (y : Name) (f : Event) → cond b (known_to_either (n.past y) known) (n.past y) f ≡ true
        → f.nth < m f.who
    either true y f z = ⊎_elim (λ (u : n.past y f ≡ true). k y f u) (λ (u : known f ≡ true). h.0 f u)
        (or_cases (n.past y f) (known f) z)
    either false y f z = k y f z
learn_all m (Counts r ∷ xs) n h k q e x = learn_all m xs (with_judge_note (Counts r) n) h k q e x
learn_all m (Records c w f ∷ xs) n h k q e x = learn_all m xs (with_judge_note (Records c w f) n) h k q e x

module _ (n : JudgeNotes) (known : IsKnowledge n) where
  own_ok : (m : Name → ℕ) (p : Name) → n.events p < m p → (e : Event) → same_event (next_event_of n p) e ≡ true
      → e.nth < m e.who
  own_ok m p lt e h = let is : next_event_of n p ≡ e = (event_test (next_event_of n p) e).0 h in
      subst (λ (x : Event). x.nth < m x.who) is lt

  knows_ok : (m : Name → ℕ) (p : Name) → ((r : Name) → n.events r ≤ m r) → n.events p < m p → (e : Event)
      → known_after_event n p e ≡ true → e.nth < m e.who
  knows_ok m p more lt e h = ⊎_elim (λ (k : n.past p e ≡ true). lt_of_lt_of_le (known p e k) (more e.who))
      (λ (k : same_event (next_event_of n p) e ≡ true). own_ok m p lt e k)
      (or_cases (n.past p e) (same_event (next_event_of n p) e) h)

  teaches_learn : (m : Name → ℕ) (p : Name) (k : ℕ) (f : Event → Bool) → ((e : Event) → f e ≡ true → e.nth < m e.who)
      → (i c : ℕ) → AllLearn m (notes_to_children p k f i c)
  teaches_learn m p k f h i zero = tt
  teaches_learn m p k f h i (suc c) = (h, teaches_learn m p k f h (suc i) c)

  tells_learn : (m : Name → ℕ) (p : Name) (f : Event → Bool) → ((e : Event) → f e ≡ true → e.nth < m e.who)
      → AllLearn m (notes_to_parent p f)
  tells_learn m [] f h = tt
  tells_learn m (a ∷ p) f h = (h, tt)

  offer_learn : (p : Name) (c : Channel) (w : Way) (x : Option Name)
      → AllLearn (with_judge_notes (offer_notes n p c w x) n).events (offer_notes n p c w x)
  offer_learn p c w None = tt
  offer_learn p c w (Some z) =
      let xs = meeting_notes n p c w z in
      let m = (with_judge_notes xs n).events in
      let one = knows_ok m p (events_grow xs n) (counted xs n p (inl refl)) in
      let two = knows_ok m z (events_grow xs n) (counted xs n z (inr (inl refl))) in
      let each : (e : Event) → known_to_either (known_after_event n p) (known_after_event n z) e ≡ true
      → e.nth < m e.who = λ e h. ⊎_elim (λ (k : known_after_event n p e ≡ true). one e k)
      (λ (k : known_after_event n z e ≡ true). two e k)
      (or_cases (known_after_event n p e) (known_after_event n z e) h) in
      (each, (each, tt))

  acts_learn : {L : Language} (s : State L) (p : Name) (a : ActOf L)
      → AllLearn (with_judge_notes (notes_of s n p a) n).events (notes_of s n p a)
  acts_learn s p (Moves o ws) = tt
  acts_learn s p (Opens o ws) =
      let xs : List Note = Counts p ∷ Learns p (same_event (next_event_of n p)) ∷ [] in
      (own_ok (with_judge_notes xs n).events p (counted xs n p (inl refl)), tt)
  acts_learn s p (Forks o os) =
      let xs : List Note = Counts p ∷ Learns p (same_event (next_event_of n p))
      ∷ notes_to_children p (s.forks p) (known_after_event n p) 0 (length os) in
      let m = (with_judge_notes xs n).events in (
        own_ok m p (counted xs n p (inl refl)),
        teaches_learn m p (s.forks p) (known_after_event n p)
            (knows_ok m p (events_grow xs n) (counted xs n p (inl refl))) 0
            (length os),
      )
  acts_learn s p (Offering o) = offer_learn p o.channel (way_of o.payload) (s.pending o.channel)
  acts_learn s p EndsProcess =
      let xs : List Note = Counts p ∷ Learns p (same_event (next_event_of n p))
      ∷ notes_to_parent p (known_after_event n p) in
      let m = (with_judge_notes xs n).events in (
        own_ok m p (counted xs n p (inl refl)),
        tells_learn m p (known_after_event n p) (knows_ok m p (events_grow xs n) (counted xs n p (inl refl))),
      )
  acts_learn s p (MeetsFault f) = tt

  -- a step's notes keep that what is known has happened
  pub known_kept : {L : Language} (s : State L) (p : Name) (a : ActOf L)
      → IsKnowledge (with_judge_notes (notes_of s n p a) n)
  known_kept s p a = learn_all (with_judge_notes (notes_of s n p a) n).events (notes_of s n p a) n (acts_learn s p a)
      (λ q e h. lt_of_lt_of_le (known q e h) (events_grow (notes_of s n p a) n e.who))
