-- Two offers on one channel: who waits and who comes may change places.
use Rattle.std.proofs.Common.{◌≡◌, ◌≢◌, ◌⊎◌, ⊎_elim, inl, inr, ◌<◌, Bool, true, false, cond, ◌&&◌, ◌==◌, List, [], ◌∷◌}
use Rattle.std.proofs.Common.{Some, None, eqb-true, eq-eqb, refl, sym, ap, ◌∙◌, subst, arith}
use Rattle.std.proofs.Math.Path.{fun_ext}
use Rattle.std.proofs.lemmas.Bool.{and_from}
use Rattle.sp_base.specs.declared.fault.Fault.TheVariants as fault
use Rattle.sp_journal.specs.declared.entry.Way.{Way}
use Rattle.sp_journal.specs.declared.entry.Way.TheVariants as way
use Rattle.sp_journal.specs.Names.{same_way}
use Rattle.sp_meaning.specs.Maps.{at_key}
use Rattle.sp_meaning.specs.Model.{Name, Channel, same_name, same_channel, Totals, add, Language, Offering, Payload}
use Rattle.sp_meaning.specs.Model.{Message, Takes, Works, Waits, State, Change, with_changes}
use Rattle.sp_meaning.specs.Steps.{ActOf, OfferOf, ConditionOf, own_part, Advances, Faulty, way_of, message, entry_cost}
use Rattle.sp_meaning.specs.Steps.{meeting_changes, waiting_changes, handover_outcome, meeting_outcome, offer_outcome}
use Rattle.sp_meaning.specs.Steps.{act_outcome, cost, limit_fault, Sound}
use Rattle.sp_meaning.proofs.Maps.{itself}
use Rattle.sp_meaning.proofs.Keys.{name_test, channel_test}
use Rattle.sp_meaning.proofs.Status.{Makes, working_stands, far, keeps_working, working_no_parent}
use Rattle.sp_meaning.proofs.Meeting.{met}
use Rattle.sp_race.specs.Notes.{same_event, known_to_either, JudgeNotes, Note, Counts, Learns, Records, with_judge_note}
use Rattle.sp_race.specs.Notes.{with_judge_notes, next_event_of, known_after_event}
use Rattle.sp_race.specs.Notes.{other_way, meeting_notes, offer_notes, notes_of, IsKnowledge, KnowsBefore}
use Rattle.sp_race.specs.RunNotes.{notes_after}
use Rattle.sp_race.proofs.NotesFrames.{event_test, or_comm, notes_swap, notes_in, past_frame, both_kept, both_right}
use Rattle.sp_race.proofs.Exchanges.{passed_earlier}
use Rattle.sp_race.proofs.Ways.{way_itself}

-- The state

message_swap : {V T : Type 0} (a b : Payload V T) → message a b ≡ message b a
message_swap (Message v) (Message w) = refl
message_swap (Message v) (Takes t) = refl
message_swap (Takes t) (Message v) = refl
message_swap (Takes t) (Takes u) = refl

conditions_swap : {X : Type 0} (b c : Bool) (x y w v u : X) → (b ≡ true → c ≡ true → ⊥)
    → cond b x (cond c y (cond b w u)) ≡ cond c y (cond b x (cond c v u))
conditions_swap true true x y w v u h = absurd (h refl refl)
conditions_swap true false x y w v u h = refl
conditions_swap false true x y w v u h = refl
conditions_swap false false x y w v u h = refl

pending_swap : {X : Type 0} (b : Bool) (x w v u : X) → cond b x (cond b w u) ≡ cond b x (cond b v u)
pending_swap true x w v u = refl
pending_swap false x w v u = refl

-- p waits and q comes, or q waits and p comes: the state afterwards is the same
swapped : {L : Language} (s : State L) (p q : Name) (o r : OfferOf L) (m : L.Target × L.Value) → q ≢ p
    → o.channel ≡ r.channel
    → with_changes (meeting_changes (with_changes (waiting_changes s p o) s) q r p o m)
    (with_changes (waiting_changes s p o) s)
    ≡ with_changes (meeting_changes (with_changes (waiting_changes s q r) s) p o q r m)
    (with_changes (waiting_changes s q r) s)
swapped {L} s p q o r m apart e =
    λ i. record {
      condition = λ x. conditions_swap (same_name p x) (same_name q x) (Works o.next) (Works r.next) (Waits o) (Waits r)
          (s.condition x) (λ a b. apart ((name_test q x).0 b ∙ sym ((name_test p x).0 a))) i;
      forks = s.forks;
      store = at_key L.same_loc (L.place m.0) (L.put m.0 (s.store (L.place m.0)) m.1) s.store;
      pending = λ x. (subst (λ c. cond (same_channel c x) None (cond (same_channel o.channel x) (Some p) (s.pending x))
          ≡ cond (same_channel o.channel x) None (cond (same_channel c x) (Some q) (s.pending x))) e
          (pending_swap (same_channel o.channel x) None (Some p) (Some q) (s.pending x))) i;
      totals = add (add s.totals entry_cost) entry_cost;
      fault = s.fault;
    }

pub met_does : {L : Language} (s : State L) (p : Name) (o : OfferOf L) (z : Name) (w : OfferOf L)
    (m : L.Target × L.Value) → s.pending o.channel ≡ Some z → s.condition z ≡ Waits w
    → message o.payload w.payload ≡ Some m
    → o.kind == w.kind ≡ true → act_outcome s p (Offering o) ≡ Advances (meeting_changes s p o z w m)
met_does {L} s p o z w m pe ce me ke = ap (offer_outcome s p o) pe
    ∙ (ap (meeting_outcome s p o z) ce ∙ (ap (handover_outcome s p o z w) me
    ∙ ap (λ b. cond b (Advances (meeting_changes s p o z w m)) (Faulty fault.F7)) ke))

pub waited_does : {L : Language} (s : State L) (p : Name) (o : OfferOf L) → s.pending o.channel ≡ None
    → act_outcome s p (Offering o) ≡ Advances (waiting_changes s p o)
waited_does s p o pe = ap (offer_outcome s p o) pe

-- The notes

other_other : (w : Way) → other_way (other_way w) ≡ w
other_other way.Send = refl
other_other way.Receive = refl

-- two offers that meet have different ways
pub ways_meet : {V T : Type 0} (a b : Payload V T) (m : T × V) → message a b ≡ Some m → way_of b ≡ other_way (way_of a)
ways_meet (Message v) (Message w) m h = absurd (cc h)
ways_meet (Message v) (Takes t) m h = refl
ways_meet (Takes t) (Message v) m h = refl
ways_meet (Takes t) (Takes u) m h = absurd (cc h)

three_swaps : (a1 a2 b1 b2 c1 c2 : Note) (n : JudgeNotes)
    → with_judge_notes (a1 ∷ a2 ∷ b1 ∷ b2 ∷ c1 ∷ c2 ∷ []) n ≡ with_judge_notes (a2 ∷ a1 ∷ b2 ∷ b1 ∷ c2 ∷ c1 ∷ []) n
three_swaps a1 a2 b1 b2 c1 c2 n =
    ap (λ m. with_judge_note c2 (with_judge_note c1 (with_judge_note b2 (with_judge_note b1 m)))) (notes_swap a2 a1 n)
    ∙ ap (λ m. with_judge_note c2 (with_judge_note c1 m)) (notes_swap b2 b1 (with_judge_note a1 (with_judge_note a2 n)))
    ∙ notes_swap c2 c1 (with_judge_note b1 (with_judge_note b2 (with_judge_note a1 (with_judge_note a2 n))))

-- whoever of the two comes later, the notes are the same
pub notes_swapped : (n : JudgeNotes) (p q : Name) (c : Channel) (w : Way)
    → with_judge_notes (meeting_notes n q c w p) n ≡ with_judge_notes (meeting_notes n p c (other_way w) q) n
notes_swapped n p q c w =
    let k : known_to_either (known_after_event n q) (known_after_event n p) ≡ known_to_either (known_after_event n p)
    (known_after_event n q) =
    fun_ext (λ x. or_comm (known_after_event n q x) (known_after_event n p x)) in
    three_swaps (Records c w (next_event_of n q)) (Records c (other_way w) (next_event_of n p)) (Counts q) (Counts p)
    (Learns q (known_to_either (known_after_event n q) (known_after_event n p)))
    (Learns p (known_to_either (known_after_event n q) (known_after_event n p))) n
    ∙ ap (λ x. with_judge_notes (Records c (other_way w) (next_event_of n p) ∷ Records c w (next_event_of n q)
    ∷ Counts p ∷ Counts q ∷ Learns p x
    ∷ Learns q x ∷ []) n) k
    ∙ ap (λ v. with_judge_notes (Records c (other_way w) (next_event_of n p) ∷ Records c v (next_event_of n q)
    ∷ Counts p ∷ Counts q
    ∷ Learns p (known_to_either (known_after_event n p) (known_after_event n q))
    ∷ Learns q (known_to_either (known_after_event n p) (known_after_event n q)) ∷ []) n)
    (sym (other_other w))

recorded_first : (n : JudgeNotes) (p : Name) (c : Channel) (w : Way) (z : Name)
    → (with_judge_notes (meeting_notes n p c w z) n).offers c w (next_event_of n p) ≡ true
recorded_first n p c w z =
    both_kept (same_channel c c && same_way (other_way w) w) _ (same_event (next_event_of n z)) (next_event_of n p)
    (both_right (same_channel c c && same_way w w) (n.offers c w) (same_event (next_event_of n p)) (next_event_of n p)
    (and_from _ _ (itself channel_test c) (way_itself _)) (itself event_test (next_event_of n p)))

recorded_second : (n : JudgeNotes) (p : Name) (c : Channel) (w : Way) (z : Name)
    → (with_judge_notes (meeting_notes n p c w z) n).offers c (other_way w) (next_event_of n z) ≡ true
recorded_second n p c w z =
    both_right (same_channel c c && same_way (other_way w) (other_way w)) _ (same_event (next_event_of n z))
    (next_event_of n z)
    (and_from _ _ (itself channel_test c) (way_itself _)) (itself event_test (next_event_of n z))

one_of : (v w : Way) → (v ≡ w) ⊎ (v ≡ other_way w)
one_of way.Send way.Send = inl refl
one_of way.Send way.Receive = inr refl
one_of way.Receive way.Send = inr refl
one_of way.Receive way.Receive = inl refl

-- The exchange

-- q's step can be made first and then p's, and both orders lead to one state with one set of notes
pub record ExchangedTo {L : Language} (limits : Totals) (s : State L) (n : JudgeNotes) (p q : Name) (a b : ActOf L)
    (t : State L) (m : JudgeNotes) : Type 0 where
  pub ds : List (Change L)
  pub first : Makes limits s q ds
  pub first_act : L.next first.own s.store ≡ b
  pub knows_first : KnowsBefore L n q b
  pub cs : List (Change L)
  pub second : Makes limits (with_changes ds s) p cs
  pub second_act : L.next second.own (with_changes ds s).store ≡ a
  pub knows_second : KnowsBefore L (notes_after s n q b) p a
  pub commute : t ≡ with_changes cs (with_changes ds s)
  pub same_notes : m ≡ notes_after (with_changes ds s) (notes_after s n q b) p a

-- where p met another, q can't offer on that channel: it does not know of it
pub met_first : {L : Language} {limits : Totals} (s : State L) (n : JudgeNotes) (p q : Name) (cs : List (Change L))
    (sound : Sound s) (known : IsKnowledge n) (one : Makes limits s p cs) (own : L.Own) (o r : OfferOf L) (z : Name)
    → L.next one.own s.store ≡ Offering o → o.channel ≡ r.channel → q ≢ p → own_part s q ≡ Some own
    → s.pending o.channel ≡ Some z → KnowsBefore L (notes_after s n p (L.next one.own s.store)) q (Offering r) → ⊥
met_first {L} {limits} s n p q cs sound known one own o r z is e apart w pe before =
    let a = L.next one.own s.store in
    let m = notes_after s n p a in
    let made : m ≡ with_judge_notes (meeting_notes n p o.channel (way_of o.payload) z) n =
    ap (notes_after s n p) is ∙ ap (λ x. with_judge_notes (offer_notes n p o.channel (way_of o.payload) x) n) pe in
    let past : m.past q ≡ n.past q = past_frame s p a q
    (far s p cs sound one q apart (working_stands s.condition q (s.condition q) own w))
    (working_no_parent s p cs sound one q own w) (notes_of s n p a) n (notes_in s n p a) in
    let never : (x : Name) → m.offers o.channel (way_of r.payload) (next_event_of n x) ≡ true → ⊥ = λ x k.
    let knows_it : n.past q (next_event_of n x) ≡ true = ap (λ f. f (next_event_of n x)) (sym past)
    ∙ before (next_event_of n x) (subst (λ d. m.offers d (way_of r.payload) (next_event_of n x) ≡ true) e k) in
    let less : n.events x < n.events x = known q (next_event_of n x) knows_it in
    omega (arith, less) in
    ⊎_elim
    (λ (v : way_of r.payload ≡ way_of o.payload). never p
    (subst (λ y. m.offers o.channel y (next_event_of n p) ≡ true) (sym v)
    (subst (λ (y : JudgeNotes). y.offers o.channel (way_of o.payload) (next_event_of n p) ≡ true) (sym made)
    (recorded_first n p o.channel (way_of o.payload) z))))
    (λ (v : way_of r.payload ≡ other_way (way_of o.payload)). never z
    (subst (λ y. m.offers o.channel y (next_event_of n z) ≡ true) (sym v)
    (subst (λ (y : JudgeNotes). y.offers o.channel (other_way (way_of o.payload)) (next_event_of n z) ≡ true) (sym made)
    (recorded_second n p o.channel (way_of o.payload) z))))
    (one_of (way_of r.payload) (way_of o.payload))

-- where p waits and q comes, q can wait and p come
pub waits_first : {L : Language} {limits : Totals} (s : State L) (n : JudgeNotes) (p q : Name) (ds : List (Change L))
    (sound : Sound s) (pown : L.Own) (o r : OfferOf L) → own_part s p ≡ Some pown → L.next pown s.store ≡ Offering o
    → (two : Makes limits (with_changes (waiting_changes s p o) s) q ds) → L.next two.own s.store ≡ Offering r
    → o.channel ≡ r.channel
    → q ≢ p → own_part s q ≡ Some two.own → s.pending o.channel ≡ None
    → KnowsBefore L n p (Offering o) → KnowsBefore L (notes_after s n p (Offering o)) q (Offering r)
    → ExchangedTo limits s n p q (Offering o) (Offering r) (with_changes ds (with_changes (waiting_changes s p o) s))
    (notes_after (with_changes (waiting_changes s p o) s) (notes_after s n p (Offering o)) q (Offering r))
waits_first {L} {limits} s n p q ds sound pown o r pw is two is2 e apart w none kp kq =
    let s1 = with_changes (waiting_changes s p o) s in
    let pe : s1.pending r.channel ≡ Some p = rw ((channel_test o.channel r.channel).1 e) refl in
    let h = met s1 q r p ds pe (subst (λ x. act_outcome s1 q x ≡ Advances ds) is2 two.does) in
    let ce : s1.condition p ≡ Waits o = rw (itself name_test p) refl in
    let its_is : h.its ≡ o = (let k = h.waits in waits_is h.its o (sym k ∙ ce)) in
    let none' : s.pending r.channel ≡ None = subst (λ c. s.pending c ≡ None) e none in
    let first : Makes limits s q (waiting_changes s q r) = record {
      own = two.own;
      works = w;
      within = subst (λ x. limit_fault limits s.totals (cost x) ≡ None) (sym is2)
          (passed_earlier limits s.totals entry_cost (Some entry_cost)
          (subst (λ x. limit_fault limits (add s.totals entry_cost) (cost x) ≡ None) is2 two.within));
      does = subst (λ x. act_outcome s q x ≡ Advances (waiting_changes s q r)) (sym is2) (waited_does s q r none');
    } in
    let s2 = with_changes (waiting_changes s q r) s in
    let meets_o : message r.payload o.payload ≡ Some h.passes =
    subst (λ (x : OfferOf L). message r.payload x.payload ≡ Some h.passes) its_is h.message_is in
    let qe : s2.pending o.channel ≡ Some q = rw ((channel_test r.channel o.channel).1 (sym e)) refl in
    let n1 : notes_after s n p (Offering o) ≡ n =
    ap (λ x. with_judge_notes (offer_notes n p o.channel (way_of o.payload) x) n) none in
    let n2 : notes_after s n q (Offering r) ≡ n =
    ap (λ x. with_judge_notes (offer_notes n q r.channel (way_of r.payload) x) n) none' in
    record {
      ds = waiting_changes s q r;
      first = first;
      first_act = is2;
      knows_first = subst (λ m. KnowsBefore L m q (Offering r)) n1 kq;
      cs = meeting_changes s2 p o q r h.passes;
      second = record {
        own = pown;
        works = keeps_working s q (waiting_changes s q r) sound first p pown (λ x. apart (sym x)) pw;
        within = subst (λ x. limit_fault limits (add s.totals entry_cost) (cost x) ≡ None) (sym is)
            (subst (λ x. limit_fault limits (add s.totals entry_cost) (cost x) ≡ None) is2 two.within);
        does = subst (λ x. act_outcome s2 p x ≡ Advances (meeting_changes s2 p o q r h.passes)) (sym is)
            (met_does s2 p o q r h.passes
            qe
            (rw (itself name_test q) refl)
            (message_swap o.payload r.payload ∙ meets_o)
            (eq-eqb o.kind r.kind (sym (eqb-true r.kind o.kind
            (subst (λ (x : OfferOf L). r.kind == x.kind ≡ true) its_is h.alike)))));
      };
      second_act = is;
      knows_second = subst (λ m. KnowsBefore L m p (Offering o)) (sym n2) kp;
      commute = ap (λ x. with_changes x s1) (h.made ∙ ap (λ x. meeting_changes s1 q r p x h.passes) its_is)
          ∙ swapped s p q o r h.passes apart e;
      same_notes =
          ap (λ m. notes_after s1 m q (Offering r)) n1
          ∙ ap (λ x. with_judge_notes (offer_notes n q r.channel (way_of r.payload) x) n) pe
          ∙ notes_swapped n p q r.channel (way_of r.payload)
          ∙ ap (λ v. with_judge_notes (meeting_notes n p r.channel v q) n)
          (sym (ways_meet r.payload o.payload h.passes meets_o))
          ∙ ap (λ c. with_judge_notes (meeting_notes n p c (way_of o.payload) q) n) (sym e)
          ∙ ap (λ x. with_judge_notes (offer_notes n p o.channel (way_of o.payload) x) n) (sym qe)
          ∙ ap (λ m. notes_after s2 m p (Offering o)) (sym n2);
    }
  where
    waits_is : (x y : OfferOf L) → ◌≡◌ {A = ConditionOf L} (Waits x) (Waits y) → x ≡ y
    waits_is x y h = cc
