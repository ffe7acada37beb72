-- Each step, and each entry that it makes, keep what a journal's pasts and the notes beside the run say of each other.
use Rattle.std.proofs.Common.{◌≡◌, ◌≢◌, ◌⊎◌, ⊎_elim, inl, inr, ℕ, zero, suc, ◌<◌, lt_irrefl, lt_of_lt_of_le}
use Rattle.std.proofs.Common.{length-append, slice_get, eqb-true, eq-eqb, Bool, true, false, cond, ◌&&◌, ◌||◌, ◌==◌}
use Rattle.std.proofs.Common.{List, [], ◌∷◌, ◌++◌, length, Option, Some, None, nat_lt, refl, sym, ap, ◌∙◌, subst, arith}
use Rattle.std.proofs.lemmas.Bool.{cases_eq, false_from_ne_true, ne_eqb, or_cases}
use Rattle.std.proofs.lemmas.Option.{none-some, same_Some}
use Rattle.sp_journal.specs.declared.entry.Way.{Way}
use Rattle.sp_journal.specs.Names.{same_way, Happening, Offered, Occurrence}
use Rattle.sp_journal.specs.Past.{Knowledge, knowledge_after_offer}
use Rattle.sp_meaning.specs.Maps.{at_key}
use Rattle.sp_meaning.specs.Model.{Name, Channel, same_name, same_channel, Totals, Language, Offering, Works, Waits}
use Rattle.sp_meaning.specs.Model.{State, Change, with_changes}
use Rattle.sp_meaning.specs.Steps.{OfferOf, ConditionOf, way_of, meeting_changes, waiting_changes, message, WaitsOn}
use Rattle.sp_meaning.specs.Steps.{Sound}
use Rattle.sp_meaning.proofs.Maps.{same_or_not, differs, itself, at_other}
use Rattle.sp_meaning.proofs.Keys.{name_test, channel_test}
use Rattle.sp_meaning.proofs.Frames.{IsOn, IsNear, all_in, condition_frame, pending_frame}
use Rattle.sp_meaning.proofs.Status.{Makes, waits_stands, waits_one, working_stands, waiting_far}
use Rattle.sp_race.specs.Notes.{Event, same_event, known_to_either, JudgeNotes, with_judge_notes, next_event_of}
use Rattle.sp_race.specs.Notes.{other_way, meeting_notes, notes_of}
use Rattle.sp_race.specs.Notes.{IsKnowledge, KnowsBefore}
use Rattle.sp_race.specs.RunNotes.{notes_after}
use Rattle.sp_race.specs.PastsAndNotes.{known_label, Pended, Recorded, IsPending, NotesMatch}
use Rattle.sp_race.proofs.NotesFrames.{event_test, notes_in, events_frame, offers_frame, events_grow, HasCount, counted}
use Rattle.sp_race.proofs.Rendezvous.{ways_meet}
use Rattle.sp_race.proofs.Ways.{way_is}

-- an entry that knows the earlier offers by their own indices
abbrev pub KnowsEarlierOffers : Knowledge → List Occurrence → Name → Way → Channel → Type 0
KnowsEarlierOffers j done p w c = (i : ℕ) (z : Name) → slice_get done i ≡ Some (record { who = z; what = Offered w c })
    → j.past p i ≡ true

-- such an entry is an ordered step
pub known_linked : {L : Language} (s : State L) (v : JudgeNotes) (j : Knowledge) (done : List Occurrence) (n : ℕ)
    (label : ℕ → Option Event) (p : Name) (o : OfferOf L) → NotesMatch s v j done n label
    → KnowsEarlierOffers j done p (way_of o.payload) o.channel → KnowsBefore L v p (Offering o)
known_linked s v j done n label p o link k = λ e h.
    let r = link.offers o.channel (way_of o.payload) e h in
    ap (known_label (v.past p)) (sym r.names) ∙ sym (link.past p r.position r.inside) ∙ k r.position r.who r.entry

pub below_or_at : (i n : ℕ) → i < suc n → (i < n) ⊎ (n ≡ i)
below_or_at i n h = elim (nat_lt i n) as (λ b. nat_lt i n ≡ b → (i < n) ⊎ (n ≡ i))
    [ true ↦ λ e. inl (grind (arith, e)) | false ↦ λ e. inr (grind (arith, e)) ] refl

pub last_entry : (done : List Occurrence) (n : ℕ) (e : Occurrence) → length done ≡ n
    → slice_get (done ++ e ∷ []) n ≡ Some e
last_entry [] n e h = subst (λ k. slice_get (e ∷ []) k ≡ Some e) h refl
last_entry (d ∷ done) n e h = subst (λ k. slice_get (d ∷ (done ++ e ∷ [])) k ≡ Some e) h
    (last_entry done (length done) e refl)

pub kept_entry : (done : List Occurrence) (e x : Occurrence) (i : ℕ) → slice_get done i ≡ Some x
    → slice_get (done ++ e ∷ []) i ≡ Some x
kept_entry [] e x i h = absurd (none-some _ h)
kept_entry (d ∷ done) e x zero h = h
kept_entry (d ∷ done) e x (suc i) h = kept_entry done e x i h

pub grown_size : (done : List Occurrence) (n : ℕ) (e : Occurrence) → length done ≡ n → length (done ++ e ∷ []) ≡ suc n
grown_size done n e h = simp length-append (omega (arith, h))

-- one more fact, at a label
pub spread : (b : Bool) (f known : Event → Bool) (l : Option Event)
    → known_label (cond b (known_to_either f known) f) l ≡ cond b (known_label f l || known_label known l)
    (known_label f l)
spread true f known None = refl
spread false f known None = refl
spread true f known (Some e) = refl
spread false f known (Some e) = refl

-- what both sides of a meeting know, at a label
twice : (b c : Bool) (f kp mp kz mz : Event → Bool) (l : Option Event)
    → known_label (cond b
    (known_to_either (cond c (known_to_either f (known_to_either (known_to_either kp mp) (known_to_either kz mz))) f)
    (known_to_either (known_to_either kp mp) (known_to_either kz mz)))
    (cond c (known_to_either f (known_to_either (known_to_either kp mp) (known_to_either kz mz))) f)) l
    ≡ cond b (cond c (known_label f l || ((known_label kp l || known_label mp l)
    || (known_label kz l || known_label mz l))) (known_label f l)
    || ((known_label kp l || known_label mp l) || (known_label kz l || known_label mz l)))
    (cond c (known_label f l || ((known_label kp l || known_label mp l) || (known_label kz l || known_label mz l)))
    (known_label f l))
twice true true f kp mp kz mz None = refl
twice true false f kp mp kz mz None = refl
twice false true f kp mp kz mz None = refl
twice false false f kp mp kz mz None = refl
twice true true f kp mp kz mz (Some e) = refl
twice true false f kp mp kz mz (Some e) = refl
twice false true f kp mp kz mz (Some e) = refl
twice false false f kp mp kz mz (Some e) = refl

-- two records of offers, at an event
two_records : (b c : Bool) (f k l : Event → Bool) (e : Event)
    → cond b (known_to_either (cond c (known_to_either f l) f) k) (cond c (known_to_either f l) f) e
    ≡ cond b (cond c (f e || l e) (f e) || k e) (cond c (f e || l e) (f e))
two_records true true f k l e = refl
two_records true false f k l e = refl
two_records false true f k l e = refl
two_records false false f k l e = refl

-- One step that makes an entry, at index n
module _ {L : Language} {limits : Totals} (s : State L) (v : JudgeNotes) (p : Name) (cs : List (Change L))
    (sound : Sound s)
    (known : IsKnowledge v) (one : Makes limits s p cs) (j : Knowledge) (done : List Occurrence) (n : ℕ)
    (label : ℕ → Option Event) (link : NotesMatch s v j done n label) (h : Happening) where
  abbrev pub labels : ℕ → Option Event
  labels i = cond (n == i) (Some (next_event_of v p)) (label i)

  old_label : (i : ℕ) → i < n → labels i ≡ label i
  old_label i lt = rw (ne_eqb n i (λ e. omega (arith, e, lt)))

  new_label : labels n ≡ Some (next_event_of v p)
  new_label = rw (eq-eqb n n refl)

  not_waiting : (c : Channel) → s.pending c ≡ Some p → ⊥
  not_waiting c e = waits_stands c (s.condition p) (sound.waits c p e)
      (working_stands s.condition p (s.condition p) one.own one.works)

  fresh : (i : ℕ) → i < n → label i ≡ Some (next_event_of v p) → ⊥
  fresh i lt e = ⊎_elim
      (λ (less : (next_event_of v p).nth < v.events p). lt_irrefl (v.events p) less)
      (λ (w : IsPending s v (next_event_of v p)). not_waiting w.channel
      (subst (λ z. s.pending w.channel ≡ Some z) (ap (λ (x : Event). x.who) (sym w.event_is)) w.pends))
      (link.made i lt (next_event_of v p) e)

  other_label : (i : ℕ) → i < n → (x : Option Event) → label i ≡ x → known_label (same_event (next_event_of v p)) x
      ≡ false
  other_label i lt None e = refl
  other_label i lt (Some y) e = differs event_test (next_event_of v p) y
      (λ is. fresh i lt (e ∙ ap (λ z. Some z) (sym is)))

  pub index_is : (i : ℕ) → i < suc n → n == i ≡ known_label (same_event (next_event_of v p)) (labels i)
  index_is i lt = ⊎_elim
      (λ (less : i < n). ne_eqb n i (λ e. omega (arith, e, less))
      ∙ sym (ap (known_label (same_event (next_event_of v p))) (old_label i less) ∙ other_label i less (label i) refl))
      (λ (e : n ≡ i). eq-eqb n i e ∙ sym (subst (λ k. known_label (same_event (next_event_of v p)) (labels k) ≡ true) e
      (ap (known_label (same_event (next_event_of v p))) new_label ∙ itself event_test (next_event_of v p))))
      (below_or_at i n lt)

  pub past_is : (q : Name) (i : ℕ) → i < suc n → j.past q i ≡ known_label (v.past q) (labels i)
  past_is q i lt = ⊎_elim
      (λ (less : i < n). link.past q i less ∙ ap (known_label (v.past q)) (sym (old_label i less)))
      (λ (e : n ≡ i). subst (λ k. j.past q k ≡ known_label (v.past q) (labels k)) e
      (false_from_ne_true (j.past q n) (λ k. lt_irrefl n (link.below q n k))
      ∙ sym (ap (known_label (v.past q)) new_label
      ∙ false_from_ne_true (v.past q (next_event_of v p))
      (λ k. lt_irrefl (v.events p) (known q (next_event_of v p) k)))))
      (below_or_at i n lt)

  labels_apart : (i k : ℕ) → i < suc n → k < suc n → (e : Event) → labels i ≡ Some e → labels k ≡ Some e → i ≡ k
  labels_apart i k li lk e f g = ⊎_elim
      (λ (a : i < n). ⊎_elim
      (λ (b : k < n). link.apart i k a b e (sym (old_label i a) ∙ f) (sym (old_label k b) ∙ g))
      (λ (b : n ≡ k). absurd (fresh i a (sym (old_label i a) ∙ f ∙ sym g
      ∙ subst (λ x. labels x ≡ Some (next_event_of v p)) b new_label)))
      (below_or_at k n lk))
      (λ (a : n ≡ i). ⊎_elim
      (λ (b : k < n). absurd (fresh k b (sym (old_label k b) ∙ g ∙ sym f
      ∙ subst (λ x. labels x ≡ Some (next_event_of v p)) a new_label)))
      (λ (b : n ≡ k). sym a ∙ b)
      (below_or_at k n lk))
      (below_or_at i n li)

  abbrev pub entry : Occurrence
  entry = record { who = p; what = h }

  abbrev pub grown : List Occurrence
  grown = done ++ entry ∷ []

  keep_recorded : (c : Channel) (w : Way) (e : Event) → Recorded done n label c w e
      → Recorded grown (suc n) labels c w e
  keep_recorded c w e r = record {
    position = r.position;
    who = r.who;
    inside = omega (arith, r.inside);
    names = old_label r.position r.inside ∙ r.names;
    entry = kept_entry done entry _ r.position r.entry;
  }

  -- an act that is no offer
  pub linked_on : (off : (c : Channel) → IsOn (L.next one.own s.store) c → ⊥)
      → HasCount p (notes_of s v p (L.next one.own s.store)) → (j' : Knowledge)
      → ((q : Name) (i : ℕ) → i < suc n → j'.past q i
      ≡ known_label ((notes_after s v p (L.next one.own s.store)).past q) (labels i))
      → ((q : Name) (i : ℕ) → j'.past q i ≡ true → i < suc n)
      → ((c : Channel) → j'.pending c ≡ j.pending c) → ((q : Name) → j'.forks q ≡ (with_changes cs s).forks q)
      → NotesMatch (with_changes cs s) (notes_after s v p (L.next one.own s.store)) j' grown (suc n) labels
  linked_on off count j' past below pending forks =
      let a = L.next one.own s.store in
      let ns = notes_of s v p a in
      let i = all_in s p a cs one.does in
      let k = notes_in s v p a in
      let pend : (c : Channel) → (with_changes cs s).pending c ≡ s.pending c =
      λ c. pending_frame s p a c (off c) cs s i in
      let away : (c : Channel) (z : Name) → s.pending c ≡ Some z → IsNear s p a z
      → ⊥ = λ c z e. waiting_far s p cs sound one c z (sound.waits c z e) (off c) in
      let mine_is : (c : Channel) (z : Name) → s.pending c ≡ Some z
      → next_event_of v z ≡ next_event_of (with_judge_notes ns v) z =
      λ c z e. ap (λ x. record { who = z; nth = x }) (sym (events_frame s p a z (away c z e) ns v k)) in
      record {
        size = grown_size done n entry link.size;
        past = past;
        below = below;
        pends = λ c z w e f.
            let before = sym (pend c) ∙ e in
            let b = link.pends c z w before (sym (condition_frame s p a z (away c z before) cs s i) ∙ f) in
            record {
              position = b.position;
              pending_is = pending c ∙ b.pending_is;
              inside = omega (arith, b.inside);
              names = old_label b.position b.inside
                  ∙ b.names ∙ ap (λ x. Some x) (mine_is c z before);
              entry = kept_entry done entry _ b.position b.entry;
            };
        free = λ c e. pending c ∙ link.free c (sym (pend c) ∙ e);
        forks = forks;
        apart = labels_apart;
        made = λ x lt e is. ⊎_elim
            (λ (less : x < n). ⊎_elim
            (λ (m : e.nth < v.events e.who). inl (lt_of_lt_of_le m (events_grow ns v e.who)))
            (λ (w : IsPending s v e). inr (record {
              who = w.who;
              channel = w.channel;
              pends = pend w.channel ∙ w.pends;
              event_is = w.event_is ∙ mine_is w.channel w.who w.pends;
            }))
            (link.made x less e (sym (old_label x less) ∙ is)))
            (λ (f : n ≡ x).
            let e_is : next_event_of v p ≡ e =
            same_Some _ _ (sym new_label ∙ subst (λ u. labels u ≡ Some e) (sym f) is) in
            inl (subst (λ (y : Event). y.nth < (with_judge_notes ns v).events y.who) e_is (counted ns v p count)))
            (below_or_at x n lt);
        offers = λ c w e f. keep_recorded c w e
            (link.offers c w e (ap (λ g. g e) (sym (offers_frame s p a c w (off c) ns v k)) ∙ f));
      }

  last_is : (c : Channel) (w : Way) → h ≡ Offered w c
      → slice_get grown n ≡ Some (record { who = p; what = Offered w c })
  last_is c w e = last_entry done n entry link.size ∙ ap (λ x. Some (record { who = p; what = x })) e

  -- an offer that waits
  pub linked_waits : (o : OfferOf L) → h ≡ Offered (way_of o.payload) o.channel → s.pending o.channel ≡ None
      → NotesMatch (with_changes (waiting_changes s p o) s) v (knowledge_after_offer j p n o.channel None) grown
      (suc n) labels
  linked_waits o h_is none =
      let t = with_changes (waiting_changes s p o) s in
      record {
        size = grown_size done n entry link.size;
        past = past_is;
        below = λ q i e. let k = link.below q i e in omega (arith, k);
        pends = λ c z w e k. ⊎_elim
            (λ (same : o.channel ≡ c).
            let here : t.pending c ≡ Some p = rw ((channel_test o.channel c).1 same) refl in
            let z_is : p ≡ z = same_Some _ _ (sym here ∙ e) in
            let there : t.condition p ≡ Waits o = rw (itself name_test p) refl in
            let w_is : o ≡ w = waits_is (sym there ∙ subst (λ x. t.condition x ≡ Waits w) (sym z_is) k) in
            record {
              position = n;
              pending_is = at_now c same ∙ ap (λ x. Some (x, n)) z_is;
              inside = omega arith;
              names = new_label ∙ ap (λ x. Some (next_event_of v x)) z_is;
              entry = last_is c (way_of w.payload)
                  (h_is ∙ ap (λ (x : OfferOf L). Offered (way_of x.payload) o.channel) w_is
                  ∙ ap (Offered (way_of w.payload)) same)
                  ∙ ap (λ x. Some (record { who = x; what = Offered (way_of w.payload) c })) z_is;
            })
            (λ (other : o.channel ≢ c).
            let before : s.pending c ≡ Some z = sym (at_other channel_test s.pending o.channel c (Some p) other) ∙ e in
            let z_not : p ≢ z = λ x. not_waiting c (before ∙ ap (λ y. Some y) (sym x)) in
            let b = link.pends c z w before (sym (at_other name_test s.condition p z (Waits o) z_not) ∙ k) in
            record {
              position = b.position;
              pending_is = at_other channel_test j.pending o.channel c (Some (p, n)) other ∙ b.pending_is;
              inside = omega (arith, b.inside);
              names = old_label b.position b.inside ∙ b.names;
              entry = kept_entry done entry _ b.position b.entry;
            })
            (same_or_not channel_test o.channel c);
        free = λ c e. ⊎_elim
            (λ (same : o.channel ≡ c). let here : t.pending c ≡ Some p = rw ((channel_test o.channel c).1 same) refl in
            absurd (none-some _ (sym e ∙ here)))
            (λ (other : o.channel ≢ c). at_other channel_test j.pending o.channel c (Some (p, n)) other
            ∙ link.free c (sym (at_other channel_test s.pending o.channel c (Some p) other) ∙ e))
            (same_or_not channel_test o.channel c);
        forks = link.forks;
        apart = labels_apart;
        made = λ x lt e is. ⊎_elim
            (λ (less : x < n). ⊎_elim
            (λ (m : e.nth < v.events e.who). inl m)
            (λ (w : IsPending s v e). inr (record {
              who = w.who;
              channel = w.channel;
              pends = at_other channel_test s.pending o.channel w.channel (Some p)
                  (λ same. none-some _ (sym none ∙ ap s.pending same ∙ w.pends)) ∙ w.pends;
              event_is = w.event_is;
            }))
            (link.made x less e (sym (old_label x less) ∙ is)))
            (λ (f : n ≡ x). inr (record {
              who = p;
              channel = o.channel;
              pends = at_key_here o;
              event_is = same_Some _ _ (sym (subst (λ u. labels u ≡ Some e) (sym f) is) ∙ new_label);
            }))
            (below_or_at x n lt);
        offers = λ c w e k. keep_recorded c w e (link.offers c w e k);
      }
    where
      waits_is : {x y : OfferOf L} → ◌≡◌ {A = ConditionOf L} (Waits x) (Waits y) → x ≡ y
      waits_is e = cc

      at_now : (c : Channel) → o.channel ≡ c → at_key same_channel o.channel (Some (p, n)) j.pending c ≡ Some (p, n)
      at_now c e = rw ((channel_test o.channel c).1 e) refl

      at_key_here : (o : OfferOf L) → at_key same_channel o.channel (Some p) s.pending o.channel ≡ Some p
      at_key_here o = rw (itself channel_test o.channel) refl

  -- an offer that meets that of z, made at an earlier index
  pub linked_meets : (o : OfferOf L) → h ≡ Offered (way_of o.payload) o.channel
      → (z : Name) (w : OfferOf L) (m : L.Target × L.Value) → s.pending o.channel ≡ Some z → s.condition z ≡ Waits w
      → message o.payload w.payload ≡ Some m → (b : Pended s v j done n label o.channel z w)
      → NotesMatch (with_changes (meeting_changes s p o z w m) s)
      (with_judge_notes (meeting_notes v p o.channel (way_of o.payload) z) v)
      (knowledge_after_offer j p n o.channel (Some (z, b.position))) grown (suc n) labels
  linked_meets o h_is z w m pe ce me b =
      let es = meeting_changes s p o z w m in
      let ns = meeting_notes v p o.channel (way_of o.payload) z in
      let t = with_changes es s in
      let u = with_judge_notes ns v in
      let other : Way = other_way (way_of o.payload) in
      let w_way : way_of w.payload ≡ other = ways_meet o.payload w.payload m me in
      let at_is : (i : ℕ) → i < suc n → b.position == i ≡ known_label (same_event (next_event_of v z)) (labels i) =
      λ i lt. ⊎_elim
      (λ (e : b.position ≡ i). eq-eqb b.position i e ∙ sym
      (subst (λ x. known_label (same_event (next_event_of v z)) (labels x) ≡ true) e
      (ap (known_label (same_event (next_event_of v z))) (old_label b.position b.inside ∙ b.names)
      ∙ itself event_test (next_event_of v z))))
      (λ (e : b.position ≢ i). ne_eqb b.position i e ∙ sym
      (false_from_ne_true (known_label (same_event (next_event_of v z)) (labels i)) (λ x.
      let y = is_label z (labels i) x in
      e (labels_apart b.position i (omega (arith, b.inside)) lt (next_event_of v z)
      (old_label b.position b.inside ∙ b.names) y))))
      (cases_eq b.position i) in
      let pend_other : (c : Channel) → o.channel ≢ c
      → t.pending c ≡ s.pending c = λ c e. at_other channel_test s.pending o.channel c None e in
      let pend_here : t.pending o.channel ≡ None = rw (itself channel_test o.channel) refl in
      let z_other : (c : Channel) (y : Name) → o.channel ≢ c → s.pending c ≡ Some y
      → z ≢ y = λ c y e k x. e (waits_one o.channel c (s.condition z) (sound.waits o.channel z pe)
      (subst (λ r. WaitsOn c (s.condition r)) (sym x) (sound.waits c y k))) in
      let p_other : (c : Channel) (y : Name) → s.pending c ≡ Some y
      → p ≢ y = λ c y k e. not_waiting c (k ∙ ap (λ x. Some x) (sym e)) in
      let events_other : (y : Name) → p ≢ y → z ≢ y
      → u.events y ≡ v.events y = λ y e f. rw (differs name_test z y f, differs name_test p y e) refl in
      record {
        size = grown_size done n entry link.size;
        past = λ q i lt. (λ x.
            let pp = past_is p i lt in let pz = past_is z i lt in let pq = past_is q i lt in let np = index_is i lt in
            let nz = at_is i lt in
            cond (same_name z q) (cond (same_name p q) (pq x || ((pp x || np x) || (pz x || nz x))) (pq x)
            || ((pp x || np x) || (pz x || nz x)))
            (cond (same_name p q) (pq x || ((pp x || np x) || (pz x || nz x))) (pq x)))
            ∙ sym (twice (same_name z q) (same_name p q) (v.past q) (v.past p) (same_event (next_event_of v p))
            (v.past z)
            (same_event (next_event_of v z)) (labels i));
        below = λ q i e. in_past (same_name z q) (same_name p q) (j.past q i) (j.past p i) (n == i) (j.past z i)
            (b.position == i) i
            (λ k. link.below q i k) (λ k. link.below p i k) (λ k. link.below z i k) (λ k. eqb-true n i k)
            (λ k. subst (λ x. x < n) (eqb-true b.position i k) b.inside) e;
        pends = λ c y x e k. ⊎_elim
            (λ (same : o.channel ≡ c). absurd (none-some _ (sym (subst (λ x. t.pending x ≡ None) same pend_here) ∙ e)))
            (λ (away : o.channel ≢ c).
            let before : s.pending c ≡ Some y = sym (pend_other c away) ∙ e in
            let f = p_other c y before in
            let g = z_other c y away before in
            let cond_is : t.condition y ≡ s.condition y =
            at_other name_test (at_key same_name p (Works o.next) s.condition) z y (Works w.next) g
            ∙ at_other name_test s.condition p y (Works o.next) f in
            let r = link.pends c y x before (sym cond_is ∙ k) in
            record {
              position = r.position;
              pending_is = at_other channel_test j.pending o.channel c None away ∙ r.pending_is;
              inside = omega (arith, r.inside);
              names = old_label r.position r.inside ∙ r.names
                  ∙ ap (λ d. Some (record { who = y; nth = d })) (sym (events_other y f g));
              entry = kept_entry done entry _ r.position r.entry;
            })
            (same_or_not channel_test o.channel c);
        free = λ c e. ⊎_elim
            (λ (same : o.channel ≡ c). none_now c same)
            (λ (away : o.channel ≢ c). at_other channel_test j.pending o.channel c None away
            ∙ link.free c (sym (pend_other c away) ∙ e))
            (same_or_not channel_test o.channel c);
        forks = link.forks;
        apart = labels_apart;
        made = λ x lt e is. ⊎_elim
            (λ (less : x < n). ⊎_elim
            (λ (k : e.nth < v.events e.who). inl (lt_of_lt_of_le k (events_grow ns v e.who)))
            (λ (k : IsPending s v e). ⊎_elim
            (λ (same : o.channel ≡ k.channel).
            let z_is : z ≡ k.who = same_Some _ _ (sym pe ∙ ap s.pending same ∙ k.pends) in
            inl (subst (λ (y : Event). y.nth < u.events y.who)
            (sym (k.event_is ∙ ap (λ y. next_event_of v y) (sym z_is)))
            (counted ns v z (inr (inl refl)))))
            (λ (away : o.channel ≢ k.channel). inr (record {
              who = k.who;
              channel = k.channel;
              pends = pend_other k.channel away ∙ k.pends;
              event_is = k.event_is
                  ∙ ap (λ d. record { who = k.who; nth = d })
                  (sym (events_other k.who (p_other k.channel k.who k.pends)
                  (z_other k.channel k.who away k.pends)));
            }))
            (same_or_not channel_test o.channel k.channel))
            (link.made x less e (sym (old_label x less) ∙ is)))
            (λ (f : n ≡ x).
            let e_is : next_event_of v p ≡ e =
            same_Some _ _ (sym new_label ∙ subst (λ d. labels d ≡ Some e) (sym f) is) in
            inl (subst (λ (y : Event). y.nth < u.events y.who) e_is (counted ns v p (inl refl))))
            (below_or_at x n lt);
        offers = λ c x e k. recorded other w_way (same_channel o.channel c) (same_way other x)
            (same_way (way_of o.payload) x) c x e ((channel_test o.channel c).0) (way_is other x)
            (way_is (way_of o.payload) x) (sym
            (two_records (same_channel o.channel c && same_way other x)
            (same_channel o.channel c && same_way (way_of o.payload) x) (v.offers c x) (same_event (next_event_of v z))
            (same_event (next_event_of v p)) e) ∙ k);
      }
    where
      is_label : (z : Name) (l : Option Event) → known_label (same_event (next_event_of v z)) l ≡ true
          → l ≡ Some (next_event_of v z)
      is_label z None h = absurd (cc h)
      is_label z (Some e) h = ap (λ x. Some x) (sym ((event_test (next_event_of v z) e).0 h))

      none_now : (c : Channel) → o.channel ≡ c → at_key same_channel o.channel None j.pending c ≡ None
      none_now c e = rw ((channel_test o.channel c).1 e) refl

      in_past : (zq pq q1 p1 n1 z1 a1 : Bool) (i : ℕ) → (q1 ≡ true → i < n) → (p1 ≡ true → i < n) → (z1 ≡ true → i < n)
          → (n1 ≡ true → n ≡ i) → (a1 ≡ true → i < n)
          → cond zq (cond pq (q1 || ((p1 || n1) || (z1 || a1))) q1 || ((p1 || n1) || (z1 || a1)))
          (cond pq (q1 || ((p1 || n1) || (z1 || a1))) q1) ≡ true → i < suc n
      in_past zq pq true p1 n1 z1 a1 i a b c d e h = let k = a refl in omega (arith, k)
      in_past zq pq false true n1 z1 a1 i a b c d e h = let k = b refl in omega (arith, k)
      in_past zq pq false false true z1 a1 i a b c d e h = let k = d refl in omega (arith, k)
      in_past zq pq false false false true a1 i a b c d e h = let k = c refl in omega (arith, k)
      in_past zq pq false false false false true i a b c d e h = let k = e refl in omega (arith, k)
      in_past true true false false false false false i a b c d e h = absurd (cc h)
      in_past true false false false false false false i a b c d e h = absurd (cc h)
      in_past false true false false false false false i a b c d e h = absurd (cc h)
      in_past false false false false false false false i a b c d e h = absurd (cc h)

      of_p : (c : Channel) (x : Way) (e : Event) → o.channel ≡ c → way_of o.payload ≡ x
          → same_event (next_event_of v p) e ≡ true
          → Recorded grown (suc n) labels c x e
      of_p c x e ce xe k = record {
        position = n;
        who = p;
        inside = omega arith;
        names = new_label
            ∙ ap (λ y. Some y) ((event_test (next_event_of v p) e).0 k);
        entry = last_is c x (h_is ∙ ap (λ y. Offered y o.channel) xe ∙ ap (Offered x) ce);
      }

      of_z : (other : Way) → way_of w.payload ≡ other → (c : Channel) (x : Way) (e : Event) → o.channel ≡ c → other ≡ x
          → same_event (next_event_of v z) e ≡ true → Recorded grown (suc n) labels c x e
      of_z other is c x e ce xe k = record {
        position = b.position;
        who = z;
        inside = omega (arith, b.inside);
        names = old_label b.position b.inside ∙ b.names ∙ ap (λ y. Some y) ((event_test (next_event_of v z) e).0 k);
        entry = kept_entry done entry _ b.position b.entry
            ∙ ap (λ y. Some (record { who = z; what = Offered y o.channel })) (is ∙ xe)
            ∙ ap (λ y. Some (record { who = z; what = Offered x y })) ce;
      }

      recorded : (other : Way) → way_of w.payload ≡ other → (sc sw so : Bool) (c : Channel) (x : Way) (e : Event)
          → (sc ≡ true → o.channel ≡ c) → (sw ≡ true → other ≡ x) → (so ≡ true → way_of o.payload ≡ x)
          → cond (sc && sw) (cond (sc && so) (v.offers c x e || same_event (next_event_of v p) e) (v.offers c x e)
          || same_event (next_event_of v z) e) (cond (sc && so) (v.offers c x e || same_event (next_event_of v p) e)
          (v.offers c x e))
          ≡ true → Recorded grown (suc n) labels c x e
      recorded other is false sw so c x e a y f g = keep_recorded c x e (link.offers c x e g)
      recorded other is true true true c x e a y f g =
          ⊎_elim (λ (k : v.offers c x e || same_event (next_event_of v p) e ≡ true). ⊎_elim
          (λ (l : v.offers c x e ≡ true). keep_recorded c x e (link.offers c x e l))
          (λ (l : same_event (next_event_of v p) e ≡ true). of_p c x e (a refl) (f refl) l) (or_cases _ _ k))
          (λ (k : same_event (next_event_of v z) e ≡ true). of_z other is c x e (a refl) (y refl) k) (or_cases _ _ g)
      recorded other is true true false c x e a y f g =
          ⊎_elim (λ (l : v.offers c x e ≡ true). keep_recorded c x e (link.offers c x e l))
          (λ (k : same_event (next_event_of v z) e ≡ true). of_z other is c x e (a refl) (y refl) k) (or_cases _ _ g)
      recorded other is true false true c x e a y f g =
          ⊎_elim (λ (l : v.offers c x e ≡ true). keep_recorded c x e (link.offers c x e l))
          (λ (l : same_event (next_event_of v p) e ≡ true). of_p c x e (a refl) (f refl) l) (or_cases _ _ g)
      recorded other is true false false c x e a y f g = keep_recorded c x e (link.offers c x e g)
