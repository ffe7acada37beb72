-- Each kind of step keeps the link between a journal and the notes beside its run.
use Rattle.std.proofs.Common.{◌≡◌, ⊎_elim, inl, inr, ℕ, zero, suc, ◌+◌, ◌<◌, lt_irrefl, eqb-true, eq-eqb, Bool, true}
use Rattle.std.proofs.Common.{false, cond, ◌||◌, ◌==◌, List, [], ◌∷◌, ◌++◌, length, Option, Some, None, refl, sym, ap}
use Rattle.std.proofs.Common.{◌∙◌, subst, arith}
use Rattle.std.proofs.lemmas.Bool.{false_from_ne_true, ne_eqb}
use Rattle.std.proofs.lemmas.Option.{none-some}
use Rattle.sp_journal.specs.Names.{Happening, Opened, Offered, Paused, Occurrence}
use Rattle.sp_journal.specs.Names as happenings
use Rattle.sp_journal.specs.Past.{Knowledge, learn, teach, report, known_with, knowledge_after_offer, knowledge_after}
use Rattle.sp_meaning.specs.Maps.{at_key}
use Rattle.sp_meaning.specs.Model.{Name, Channel, same_name, Totals, Language, Moves, Opens, Forks, Offering}
use Rattle.sp_meaning.specs.Model.{EndsProcess}
use Rattle.sp_meaning.specs.Model.{Works, Joins, Ended, State, Change, Becomes, Forked, WritesLocation, AddsTotals}
use Rattle.sp_meaning.specs.Model.{with_change, with_changes}
use Rattle.sp_meaning.specs.Steps.{OfferOf, Advances, write_changes, birth_changes, way_of, act_outcome, Sound}
use Rattle.sp_meaning.proofs.Frames.{IsOn, all_in, condition_frame, pending_frame}
use Rattle.sp_meaning.proofs.Status.{Makes, waiting_far}
use Rattle.sp_meaning.proofs.Meeting.{met, waited, same_changes}
use Rattle.sp_race.specs.Notes.{Event, same_event, JudgeNotes, Note, Counts, Learns, with_judge_note, with_judge_notes}
use Rattle.sp_race.specs.Notes.{next_event_of, known_after_event, notes_to_children}
use Rattle.sp_race.specs.Notes.{notes_to_parent, meeting_notes, offer_notes, notes_of, IsKnowledge}
use Rattle.sp_race.specs.RunNotes.{notes_after}
use Rattle.sp_race.specs.PastsAndNotes.{known_label, IsPending, NotesMatch}
use Rattle.sp_race.proofs.NotesFrames.{HasCount}
use Rattle.sp_race.proofs.NoteLaws.{past_is, index_is, spread, linked_on, linked_waits, linked_meets, below_or_at}
use Rattle.sp_race.proofs.NoteLaws.{kept_entry, grown_size}

puts_forks : {L : Language} (ws : List (L.Loc × L.Value)) (t : State L) → (with_changes (write_changes ws) t).forks
    ≡ t.forks
puts_forks [] t = refl
puts_forks (w ∷ ws) t = puts_forks ws (with_change (WritesLocation w.0 w.1) t)

births_forks : {L : Language} (p : Name) (k x : ℕ) (os : List L.Own) (t : State L)
    → (with_changes (birth_changes p k x os) t).forks ≡ t.forks
births_forks p k x [] t = refl
births_forks p k x (o ∷ os) t = births_forks p k (suc x) os (with_change (Becomes ((k, x) ∷ p) (Works o)) t)

-- what children start with, in the journal and in the notes
teaches_past : (p : Name) (k : ℕ) (known : Event → Bool) (x m : ℕ) (v : JudgeNotes) (f : ℕ → Bool) (past : Name → ℕ
    → Bool)
    (i : ℕ) (l : Option Event) → f i ≡ known_label known l → ((q : Name) → past q i ≡ known_label (v.past q) l)
    → (q : Name) → teach p k f x m past q i
    ≡ known_label ((with_judge_notes (notes_to_children p k known x m) v).past q) l
teaches_past p k known x zero v f past i l fe h q = h q
teaches_past p k known x (suc m) v f past i l fe h q =
    teaches_past p k known (suc x) m (with_judge_note (Learns ((k, x) ∷ p) known) v) f
    (learn ((k, x) ∷ p) f past) i l fe
    (λ r. (λ y. cond (same_name ((k, x) ∷ p) r) (h r y || fe y) (h r y))
    ∙ sym (spread (same_name ((k, x) ∷ p) r) (v.past r) known l)) q

pub learn_below : (p : Name) (f : ℕ → Bool) (n : ℕ) → ((i : ℕ) → f i ≡ true → i < n) → (past : Name → ℕ → Bool)
    → ((q : Name) (i : ℕ) → past q i ≡ true → i < n) → (q : Name) (i : ℕ) → learn p f past q i ≡ true → i < n
learn_below p f n g past h q i e = by (same_name p q) (past q i) (f i) (h q i) (g i) e
  where
    by : (b a c : Bool) → (a ≡ true → i < n) → (c ≡ true → i < n) → cond b (a || c) a ≡ true → i < n
    by b true c h g z = h refl
    by true false c h g z = g z
    by false false c h g z = h z

pub teach_below : (p : Name) (k : ℕ) (f : ℕ → Bool) (n : ℕ) → ((i : ℕ) → f i ≡ true → i < n)
    → (x m : ℕ) (past : Name → ℕ → Bool) → ((q : Name) (i : ℕ) → past q i ≡ true → i < n) → (q : Name) (i : ℕ)
    → teach p k f x m past q i ≡ true → i < n
teach_below p k f n g x zero past h q i e = h q i e
teach_below p k f n g x (suc m) past h q i e =
    teach_below p k f n g (suc x) m (learn ((k, x) ∷ p) f past) (learn_below ((k, x) ∷ p) f n g past h) q i e

pub now_below : (j : Knowledge) (p : Name) (n : ℕ) → ((i : ℕ) → j.past p i ≡ true → i < n) → (i : ℕ)
    → known_with j p n i ≡ true → i < suc n
now_below j p n below i e = by (j.past p i) (n == i) (below i) (eqb-true n i) e
  where
    by : (a b : Bool) → (a ≡ true → i < n) → (b ≡ true → n ≡ i) → a || b ≡ true → i < suc n
    by true b f g h = let k = f refl in omega (arith, k)
    by false b f g h = let k = g h in omega (arith, k)

pub report_below : (r : Name) (f : ℕ → Bool) (n : ℕ) → ((i : ℕ) → f i ≡ true → i < n) → (past : Name → ℕ → Bool)
    → ((q : Name) (i : ℕ) → past q i ≡ true → i < n) → (q : Name) (i : ℕ) → report r f past q i ≡ true → i < n
report_below [] f n g past h = h
report_below (a ∷ r) f n g past h = learn_below r f n g past h

module _ {L : Language} {limits : Totals} (s : State L) (v : JudgeNotes) (p : Name) (cs : List (Change L))
    (sound : Sound s)
    (known : IsKnowledge v) (one : Makes limits s p cs) (j : Knowledge) (done : List Occurrence) (n : ℕ)
    (label : ℕ → Option Event) (link : NotesMatch s v j done n label) where
  abbrev pub grows_label : ℕ → Option Event
  grows_label i = cond (n == i) (Some (next_event_of v p)) (label i)

  abbrev counted_notes : JudgeNotes
  counted_notes = with_judge_note (Counts p) v

  first_past : (h : Happening) (q : Name) (i : ℕ) → i < suc n
      → learn p (λ x. n == x) j.past q i
      ≡ known_label ((with_judge_note (Learns p (same_event (next_event_of v p))) counted_notes).past q)
      (grows_label i)
  first_past h q i lt =
      let a = past_is s v p cs sound known one j done n label link h q i lt in
      let b = index_is s v p cs sound known one j done n label link h i lt in
      (λ x. cond (same_name p q) (a x || b x) (a x))
      ∙ sym (spread (same_name p q) (v.past q) (same_event (next_event_of v p)) (grows_label i))

  first_below : (q : Name) (i : ℕ) → learn p (λ x. n == x) j.past q i ≡ true → i < suc n
  first_below = learn_below p (λ x. n == x) (suc n) (λ i e. let k = eqb-true n i e in omega (arith, k)) j.past
      (λ q i e. let k = link.below q i e in omega (arith, k))

  knows_label : (h : Happening) (i : ℕ) → i < suc n → known_with j p n i ≡ known_label (known_after_event v p)
      (grows_label i)
  knows_label h i lt =
      let a = past_is s v p cs sound known one j done n label link h p i lt in
      let b = index_is s v p cs sound known one j done n label link h i lt in
      (λ x. a x || b x) ∙ joined (grows_label i)
    where
      joined : (l : Option Event) → known_label (v.past p) l
          || known_label (same_event (next_event_of v p)) l ≡ known_label (known_after_event v p) l
      joined None = refl
      joined (Some e) = refl

  pub opens_linked : (o : L.Own) (ws : List (L.Loc × L.Value)) → L.next one.own s.store ≡ Opens o ws
      → NotesMatch (with_changes cs s) (notes_after s v p (L.next one.own s.store)) (knowledge_after j n p Opened)
      (done ++ record { who = p; what = Opened } ∷ []) (suc n) grows_label
  opens_linked o ws is =
      let es : List (Change L) = Becomes p (Works o) ∷ AddsTotals (record { processes = 0; channels = 1; entries = 1 })
      ∷ write_changes ws in
      let list : cs ≡ es = same_changes _ _ (subst (λ a. act_outcome s p a ≡ Advances cs) is one.does) in
      let forks_at : (with_changes cs s).forks ≡ s.forks = ap (λ x. (with_changes x s).forks) list
      ∙ puts_forks ws (with_change (AddsTotals (record { processes = 0; channels = 1; entries = 1 }))
      (with_change (Becomes p (Works o)) s)) in
      let ns : List Note = Counts p ∷ Learns p (same_event (next_event_of v p)) ∷ [] in
      let notes_are : notes_of s v p (L.next one.own s.store) ≡ ns = ap (notes_of s v p) is in
      linked_on s v p cs sound known one j done n label link Opened (λ c on. subst (λ a. IsOn a c) is on)
      (subst (HasCount p) (sym notes_are) (inl refl)) (knowledge_after j n p Opened)
      (λ q i lt. first_past Opened q i lt ∙ ap (λ x. known_label ((with_judge_notes x v).past q) (grows_label i))
      (sym notes_are))
      first_below (λ c. refl) (λ q. link.forks q ∙ ap (λ f. f q) (sym forks_at))

  pub forks_linked : (o : L.Own) (os : List L.Own) → L.next one.own s.store ≡ Forks o os
      → NotesMatch (with_changes cs s) (notes_after s v p (L.next one.own s.store))
      (knowledge_after j n p (happenings.Forked (length os)))
      (done ++ record { who = p; what = happenings.Forked (length os) } ∷ []) (suc n) grows_label
  forks_linked o os is =
      let h = happenings.Forked (length os) in
      let new : Totals = record { processes = length os; channels = 0; entries = 1 } in
      let es : List (Change L) = Becomes p (Joins (s.forks p) (length os) o) ∷ Forked p ∷ AddsTotals new
      ∷ birth_changes p (s.forks p) 0 os in
      let list : cs ≡ es = same_changes _ _ (subst (λ a. act_outcome s p a ≡ Advances cs) is one.does) in
      let forks_at : (with_changes es s).forks ≡ at_key same_name p (s.forks p + 1) s.forks =
      births_forks p (s.forks p) 0 os (with_change (AddsTotals new)
      (with_change (Forked p) (with_change (Becomes p (Joins (s.forks p) (length os) o)) s))) in
      let ns : List Note = Counts p ∷ Learns p (same_event (next_event_of v p))
      ∷ notes_to_children p (s.forks p) (known_after_event v p) 0 (length os) in
      let notes_are : notes_of s v p (L.next one.own s.store) ≡ ns = ap (notes_of s v p) is in
      linked_on s v p cs sound known one j done n label link h (λ c on. subst (λ a. IsOn a c) is on)
      (subst (HasCount p) (sym notes_are) (inl refl)) (knowledge_after j n p h)
      (λ q i lt.
      ap (λ k. teach p k (known_with j p n) 0 (length os) (learn p (λ x. n == x) j.past) q i) (link.forks p)
      ∙ teaches_past p (s.forks p) (known_after_event v p) 0 (length os)
      (with_judge_note (Learns p (same_event (next_event_of v p))) counted_notes)
      (known_with j p n) (learn p (λ x. n == x) j.past) i (grows_label i) (knows_label h i lt)
      (λ r. first_past h r i lt) q
      ∙ ap (λ x. known_label ((with_judge_notes x v).past q) (grows_label i)) (sym notes_are))
      (teach_below p (j.forks p) (known_with j p n) (suc n) (now_below j p n (link.below p)) 0 (length os)
      (learn p (λ x. n == x) j.past) first_below)
      (λ c. refl)
      (λ q. (λ x. cond (same_name p q) (link.forks p x + 1) (link.forks q x)) ∙ ap (λ f. f q) (sym forks_at)
      ∙ ap (λ x. (with_changes x s).forks q) (sym list))

  tells_past : (r : Name) (w : JudgeNotes) (past : Name → ℕ → Bool) (i : ℕ) (l : Option Event)
      → known_with j p n i ≡ known_label (known_after_event v p) l → ((q : Name) → past q i ≡ known_label (w.past q) l)
      → (q : Name)
      → report r (known_with j p n) past q i
      ≡ known_label ((with_judge_notes (notes_to_parent r (known_after_event v p)) w).past q) l
  tells_past [] w past i l fe h q = h q
  tells_past (a ∷ r) w past i l fe h q = (λ y. cond (same_name r q) (h q y || fe y) (h q y))
      ∙ sym (spread (same_name r q) (w.past q) (known_after_event v p) l)

  pub ends_linked : L.next one.own s.store ≡ EndsProcess
      → NotesMatch (with_changes cs s) (notes_after s v p (L.next one.own s.store))
      (knowledge_after j n p happenings.Ended)
      (done ++ record { who = p; what = happenings.Ended } ∷ []) (suc n) grows_label
  ends_linked is =
      let es : List (Change L) = Becomes p Ended ∷ [] in
      let list : cs ≡ es = same_changes _ _ (subst (λ a. act_outcome s p a ≡ Advances cs) is one.does) in
      let ns : List Note = Counts p ∷ Learns p (same_event (next_event_of v p))
      ∷ notes_to_parent p (known_after_event v p) in
      let notes_are : notes_of s v p (L.next one.own s.store) ≡ ns = ap (notes_of s v p) is in
      linked_on s v p cs sound known one j done n label link happenings.Ended (λ c on. subst (λ a. IsOn a c) is on)
      (subst (HasCount p) (sym notes_are) (inl refl)) (knowledge_after j n p happenings.Ended)
      (λ q i lt.
      tells_past p (with_judge_note (Learns p (same_event (next_event_of v p))) counted_notes)
      (learn p (λ x. n == x) j.past) i
      (grows_label i) (knows_label happenings.Ended i lt) (λ r. first_past happenings.Ended r i lt) q
      ∙ ap (λ x. known_label ((with_judge_notes x v).past q) (grows_label i)) (sym notes_are))
      (report_below p (known_with j p n) (suc n) (now_below j p n (link.below p)) (learn p (λ x. n == x) j.past)
      first_below)
      (λ c. refl)
      (λ q. link.forks q ∙ ap (λ x. (with_changes x s).forks q) (sym list))

  -- a step without an entry
  pub moves_linked : (o : L.Own) (ws : List (L.Loc × L.Value)) → L.next one.own s.store ≡ Moves o ws
      → NotesMatch (with_changes cs s) (notes_after s v p (L.next one.own s.store)) j done n label
  moves_linked o ws is =
      let a = L.next one.own s.store in
      let es : List (Change L) = Becomes p (Works o) ∷ write_changes ws in
      let list : cs ≡ es = same_changes _ _ (subst (λ a. act_outcome s p a ≡ Advances cs) is one.does) in
      let forks_at : (with_changes cs s).forks ≡ s.forks = ap (λ x. (with_changes x s).forks) list
      ∙ puts_forks ws (with_change (Becomes p (Works o)) s) in
      let i = all_in s p a cs one.does in
      let off : (c : Channel) → IsOn a c → ⊥ = λ c on. subst (λ a. IsOn a c) is on in
      let pend : (c : Channel) → (with_changes cs s).pending c ≡ s.pending c =
      λ c. pending_frame s p a c (off c) cs s i in
      let same : v ≡ notes_after s v p a = ap (λ x. with_judge_notes x v) (sym (ap (notes_of s v p) is)) in
      subst (λ w. NotesMatch (with_changes cs s) w j done n label) same (record {
        size = link.size;
        past = link.past;
        below = link.below;
        pends = λ c z w e k.
            let before = sym (pend c) ∙ e in
            let away = waiting_far s p cs sound one c z (sound.waits c z before) (off c) in
            let b = link.pends c z w before (sym (condition_frame s p a z away cs s i) ∙ k) in
            record {
              position = b.position;
              pending_is = b.pending_is;
              inside = b.inside;
              names = b.names;
              entry = b.entry;
            };
        free = λ c e. link.free c (sym (pend c) ∙ e);
        forks = λ q. link.forks q ∙ ap (λ f. f q) (sym forks_at);
        apart = link.apart;
        made = λ x lt e is. ⊎_elim
            (λ (m : e.nth < v.events e.who). inl m)
            (λ (w : IsPending s v e). inr (record {
              who = w.who;
              channel = w.channel;
              pends = pend w.channel ∙ w.pends;
              event_is = w.event_is;
            }))
            (link.made x lt e is);
        offers = link.offers;
      })

  pub offers_linked : (o : OfferOf L) → L.next one.own s.store ≡ Offering o
      → NotesMatch (with_changes cs s) (notes_after s v p (L.next one.own s.store))
      (knowledge_after j n p (Offered (way_of o.payload) o.channel))
      (done ++ record { who = p; what = Offered (way_of o.payload) o.channel } ∷ []) (suc n) grows_label
  offers_linked o is =
      let h = Offered (way_of o.payload) o.channel in
      let does = subst (λ a. act_outcome s p a ≡ Advances cs) is one.does in
      let notes_are : notes_after s v p (L.next one.own s.store)
      ≡ with_judge_notes (offer_notes v p o.channel (way_of o.payload) (s.pending o.channel)) v =
      ap (notes_after s v p) is in
      elim (s.pending o.channel) as (λ m. s.pending o.channel ≡ m
      → NotesMatch (with_changes cs s) (notes_after s v p (L.next one.own s.store)) (knowledge_after j n p h)
      (done ++ record { who = p; what = h } ∷ []) (suc n) grows_label) [
        | None ↦ λ e.
            let x = linked_waits s v p cs sound known one j done n label link h o refl e in
            let same : v ≡ notes_after s v p (L.next one.own s.store) =
            sym (notes_are ∙ ap (λ m. with_judge_notes (offer_notes v p o.channel (way_of o.payload) m) v) e) in
            subst (λ w. NotesMatch (with_changes cs s) w (knowledge_after j n p h) (done ++ record { who = p; what = h }
            ∷ []) (suc n)
            grows_label) same
            (subst (λ m. NotesMatch (with_changes cs s) v (knowledge_after_offer j p n o.channel m)
            (done ++ record { who = p; what = h } ∷ [])
            (suc n) grows_label) (sym (link.free o.channel e))
            (subst (λ ds. NotesMatch (with_changes ds s) v (knowledge_after_offer j p n o.channel None)
            (done ++ record { who = p; what = h } ∷ []) (suc n) grows_label) (sym (waited s p o cs e does)) x))
        | Some z ↦ λ e.
            let g = met s p o z cs e does in
            let b = link.pends o.channel z g.its e g.waits in
            let x = linked_meets s v p cs sound known one j done n label link h o refl z g.its g.passes e g.waits
            g.message_is
            b in
            let same : with_judge_notes (meeting_notes v p o.channel (way_of o.payload) z) v
            ≡ notes_after s v p (L.next one.own s.store) =
            sym (notes_are ∙ ap (λ m. with_judge_notes (offer_notes v p o.channel (way_of o.payload) m) v) e) in
            subst (λ w. NotesMatch (with_changes cs s) w (knowledge_after j n p h) (done ++ record { who = p; what = h }
            ∷ []) (suc n)
            grows_label) same
            (subst (λ m. NotesMatch (with_changes cs s)
            (with_judge_notes (meeting_notes v p o.channel (way_of o.payload) z) v)
            (knowledge_after_offer j p n o.channel m) (done ++ record { who = p; what = h } ∷ []) (suc n) grows_label)
            (sym b.pending_is)
            (subst (λ ds. NotesMatch (with_changes ds s)
            (with_judge_notes (meeting_notes v p o.channel (way_of o.payload) z) v)
            (knowledge_after_offer j p n o.channel (Some (z, b.position))) (done ++ record { who = p; what = h } ∷ [])
            (suc n)
            grows_label) (sym g.made) x))
      ] refl

-- an entry of a pause changes nothing, and has an index
pub pause_linked : {L : Language} (s : State L) (v : JudgeNotes) (j : Knowledge) (done : List Occurrence) (n : ℕ)
    (label : ℕ → Option Event) (q : Name) → NotesMatch s v j done n label
    → NotesMatch s v j (done ++ record { who = q; what = Paused } ∷ []) (suc n) (λ i. cond (n == i) None (label i))
pause_linked {L} s v j done n label q link = record {
  size = grown_size done n entry link.size;
  past = λ r i lt. ⊎_elim
      (λ (less : i < n). link.past r i less ∙ ap (known_label (v.past r)) (sym (old i less)))
      (λ (e : n ≡ i). subst (λ k. j.past r k ≡ known_label (v.past r) (labelled k)) e
      (false_from_ne_true (j.past r n) (λ k. lt_irrefl n (link.below r n k))
      ∙ sym (ap (known_label (v.past r)) new)))
      (below_or_at i n lt);
  below = λ r i e. let k = link.below r i e in omega (arith, k);
  pends = λ c z w e k. let b = link.pends c z w e k in
      record {
        position = b.position;
        pending_is = b.pending_is;
        inside = omega (arith, b.inside);
        names = old b.position b.inside ∙ b.names;
        entry = kept_entry done entry _ b.position b.entry;
      };
  free = link.free;
  forks = link.forks;
  apart = λ i k li lk e f g. link.apart i k (inside i li e f) (inside k lk e g) e (sym (old i (inside i li e f)) ∙ f)
      (sym (old k (inside k lk e g)) ∙ g);
  made = λ i lt e f. link.made i (inside i lt e f) e (sym (old i (inside i lt e f)) ∙ f);
  offers = λ c w e k. let r = link.offers c w e k in
      record {
        position = r.position;
        who = r.who;
        inside = omega (arith, r.inside);
        names = old r.position r.inside ∙ r.names;
        entry = kept_entry done entry _ r.position r.entry;
      };
}
  where
    entry : Occurrence
    entry = record { who = q; what = Paused }

    labelled : ℕ → Option Event
    labelled i = cond (n == i) None (label i)

    old : (i : ℕ) → i < n → labelled i ≡ label i
    old i lt = rw (ne_eqb n i (λ e. omega (arith, e, lt)))

    new : labelled n ≡ None
    new = rw (eq-eqb n n refl) refl

    inside : (i : ℕ) → i < suc n → (e : Event) → labelled i ≡ Some e → i < n
    inside i lt e f = ⊎_elim (λ (less : i < n). less)
        (λ (is : n ≡ i). absurd (none-some _ (sym new ∙ subst (λ k. labelled k ≡ Some e) (sym is) f)))
        (below_or_at i n lt)
