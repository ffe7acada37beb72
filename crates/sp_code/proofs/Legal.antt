-- A legal history determines the control and the system; what is out with a worker stays so until that worker's next
-- note.
use Rattle.std.proofs.Common.{◌≡◌, ◌≢◌, ℕ, ◌<◌, List, [], ◌∷◌, ◌++◌, Option, Some, None, refl, sym, ap, ◌∙◌, subst}
use Rattle.std.proofs.lemmas.Option.{same_Some}
use Rattle.sp_journal.specs.declared.entry.Event.{Event}
use Rattle.sp_journal.specs.declared.entry.Note.{Note}
use Rattle.sp_journal.specs.declared.entry.Entry.{Entry}
use Rattle.sp_journal.specs.Births.{Births}
use Rattle.sp_code.specs.Machine.{Config}
use Rattle.sp_code.specs.Memory.{CodeRun, Stores, Memory}
use Rattle.sp_code.specs.Control.{Control, Doing, Ready, Out, Gone, comes_back, abandons, takes, after_give, after_note}
use Rattle.sp_code.specs.Control.{after_notes, front, front_of, front_while, Standing, Running}
use Rattle.sp_code.specs.Control.{standing, entry_of, entries_of}
use Rattle.sp_code.specs.System.{System, Working, system_after_turn, GiveIsLegal, GetIsLegal, EntriesLead}
use Rattle.sp_code.specs.System.{LegalFrom}
use Rattle.sp_code.proofs.Systems.{enters_same}
use Rattle.sp_code.specs.Agreement.{EachNumber, IsOrderly, AgreesWithSystem, IsGot, NoteLeads, Reaches, NoneBy}
use Rattle.sp_code.proofs.Queues.{at_other}
use Rattle.sp_code.proofs.Orders.{orderly_back, orderly_does, out_there, no_offer, not_ready_out}
use Rattle.sp_code.proofs.ControlAgreement.{agrees_after, agrees_takes, orderly_takes, at_phase, as_it_was}
use Rattle.sp_code.proofs.OutProcesses.{after_same, back_out}

-- the front of the queue is the first that is ready
front_first : (k : Control) → IsOrderly k → (q : ℕ) (st : Standing) → front_while st k.ready ≡ Some q → IsGot k (Some q)
front_first k h q Running e = go k.ready refl h.queue.queued e
  where
    go : (r : List ℕ) → k.ready ≡ r → EachNumber (λ x. k.doing x ≡ Ready) r → front_of r ≡ Some q → IsGot k (Some q)
    go [] w each e = absurd (cc e)
    go (x ∷ xs) w each e = let is : x ≡ q = cc e in
        ((xs, w ∙ ap (λ y. y ∷ xs) is), subst (λ y. k.doing y ≡ Ready) is each.0)
front_first _ _ _ _ e = absurd (cc e)

pub got_of : (k : Control) → IsOrderly k → (got : Option ℕ) → got ≡ front k → IsGot k got
got_of k h None e = tt {0}
got_of k h (Some q) e = front_first k h q (standing k) (sym e)

-- the control after more notes
pub noted_more : (k : Control) (ns ms : List Note) → after_notes (ns ++ ms) k ≡ after_notes ms (after_notes ns k)
noted_more k [] ms = refl
noted_more k (n ∷ ns) ms = noted_more (after_note n k) ns ms

-- an abandon
pub orderly_gives_up : (k : Control) → IsOrderly k → (w : ℕ) (o : Option ℕ) → ((p : ℕ) → o ≡ Some p → k.doing p ≡ Out w)
    → IsOrderly (abandons o k)
orderly_gives_up k h w None e = record { queue = h.queue; unborn = h.unborn; pending = h.pending; parents = h.parents }
orderly_gives_up k h w (Some p) e =
    let out : k.doing p ≡ Out w = e p refl in
    let o = orderly_does h p Gone (out_there h p w out) (not_ready_out (k.doing p) w out) (λ f. absurd (cc f))
    (no_offer h p w out) in
    record { queue = o.queue; unborn = o.unborn; pending = o.pending; parents = o.parents }

pub agrees_gives_up : {S : Type 0} (k : Control) (s : System S) → AgreesWithSystem k s → (w : ℕ) (o : Option ℕ)
    → ((p : ℕ) → o ≡ Some p → k.doing p ≡ Out w) → AgreesWithSystem (abandons o k) s
agrees_gives_up k s a w None e = record { each = a.each; births = a.births; faulted = a.faulted; pending = a.pending }
agrees_gives_up k s a w (Some p) e = record {
  each = λ q. at_phase p q Gone k.doing ∙ sym (as_it_was p q k.doing (Out w) (e p refl)) ∙ a.each q;
  births = a.births;
  faulted = a.faulted;
  pending = a.pending;
}

module _ {S : Type 0} (stores : Stores S) (g : CodeRun) where
  -- one note
  kept_by : (w : ℕ) (give : Option ℕ) (e : Option Event) (got : Option ℕ) (k : Control) (s t : System S) → IsOrderly k
      → AgreesWithSystem k s → GiveIsLegal stores g k s w give e got t
      → GetIsLegal stores g (after_give give e got k) e got
      → IsOrderly (takes w got (after_give give e got k)) × AgreesWithSystem (takes w got (after_give give e got k)) t
  kept_by w None None None k s t h a i j = (
    orderly_gives_up k h w None (λ p e. absurd (cc e)),
    subst (AgreesWithSystem (abandons None k)) (sym i) (agrees_gives_up k s a w None (λ p e. absurd (cc e))),
  )
  kept_by w None None (Some q) k s t h a i j = let f = got_of k h (Some q) (sym j) in (
    orderly_takes k h w (Some q) f,
    subst (AgreesWithSystem (takes w (Some q) k)) (sym i)
        (agrees_takes k s a w (Some q) f),
  )
  kept_by w None (Some e) got k s t h a i j = absurd i
  kept_by w (Some p) None None k s t h a i j =
      let out : (r : ℕ) → Some p ≡ Some r → k.doing r ≡ Out w =
      λ r e. subst (λ x. k.doing x ≡ Out w) (same_Some _ _ e) i.0 in (
        orderly_gives_up k h w (Some p) out,
        subst (AgreesWithSystem (abandons (Some p) k)) (sym i.2)
            (agrees_gives_up k s a w (Some p) out),
      )
  kept_by w (Some p) None (Some q) k s t h a i j = absurd (cc (i.1))
  kept_by w (Some p) (Some e) got k s t h a i j =
      let (_, _, turn, _, event_is, leads) = i.1 in
      let m : Control = comes_back p e k in
      let hm : IsOrderly m = orderly_back k h p w e i.0 in
      let am : AgreesWithSystem m t = subst (λ x. AgreesWithSystem m x) (sym leads)
      (subst (λ x. AgreesWithSystem (comes_back p x k) (system_after_turn stores g p turn s)) event_is
      (agrees_after stores g k s h a p w i.0 turn)) in
      let f = got_of m hm got j in
      (orderly_takes m hm w got f, agrees_takes m t am w got f)

  pub keeps : (k : Control) (s t : System S) (n : Note) → IsOrderly k → AgreesWithSystem k s
      → NoteLeads stores g k s n t
      → IsOrderly (after_note n k) × AgreesWithSystem (after_note n k) t
  keeps k s t n h a f = kept_by n.worker n.given n.event n.got k s t h a f.gives f.gets

  -- the control after a legal history is that of its notes, orderly, and agrees with the system
  pub reaches_keeps : (k : Control) (s t : System S) (ns : List Note) → IsOrderly k → AgreesWithSystem k s
      → Reaches stores g k s ns t → IsOrderly (after_notes ns k) × AgreesWithSystem (after_notes ns k) t
  reaches_keeps k s t [] h a r = (h, subst (AgreesWithSystem k) r a)
  reaches_keeps k s t (n ∷ ns) h a r = let o = keeps k s r.0 n h a r.1 in
      reaches_keeps (after_note n k) r.0 t ns o.0 o.1 r.2

  -- it is legal, and the system is that along the journal of its notes
  pub reaches_legal : (k : Control) (s t : System S) (ns : List Note) → Reaches stores g k s ns t
      → LegalFrom stores g k s ns
  reaches_legal k s t [] r = tt {0}
  reaches_legal k s t (n ∷ ns) r = (r.0, r.1.gives, r.1.gets, reaches_legal (after_note n k) r.0 t ns r.2)

  -- and a legal history leads to a system
  pub legal_reaches : (k : Control) (s : System S) (ns : List Note) → LegalFrom stores g k s ns → (t : System S)
      × Reaches stores g k s ns t
  legal_reaches k s [] l = (s, refl)
  legal_reaches k s (n ∷ ns) (next, gives, gets, legal) =
      let r = legal_reaches (after_note n k) next ns legal in
      (r.0, (next, record { gives = gives; gets = gets }, r.1))

  gives_leads : (w : ℕ) (give : Option ℕ) (e : Option Event) (got : Option ℕ) (k : Control) (s t u : System S)
      (es : List Entry) → GiveIsLegal stores g k s w give e got t → EntriesLead stores g t es u
      → EntriesLead stores g s (entry_of give e ++ es) u
  gives_leads w None None got k s t u es i l = subst (λ x. EntriesLead stores g x es u) i l
  gives_leads w None (Some e) got k s t u es i l = absurd i
  gives_leads w (Some p) None got k s t u es i l = subst (λ x. EntriesLead stores g x es u) i.2 l
  gives_leads w (Some p) (Some e) got k s t u es i l = (t, i.1, l)

  pub reaches_leads : (k : Control) (s t : System S) (ns : List Note) → Reaches stores g k s ns t
      → EntriesLead stores g s (entries_of ns) t
  reaches_leads k s t [] r = sym r
  reaches_leads k s t (n ∷ ns) r = gives_leads n.worker n.given n.event n.got k s r.0 t (entries_of ns) r.1.gives
      (reaches_leads (after_note n k) r.0 t ns r.2)

  -- a legal history has one system
  gives_same : (w : ℕ) (give : Option ℕ) (e : Option Event) (got : Option ℕ) (k : Control) (s t u : System S)
      → GiveIsLegal stores g k s w give e got t → GiveIsLegal stores g k s w give e got u → t ≡ u
  gives_same w None None got k s t u i j = i ∙ sym j
  gives_same w None (Some e) got k s t u i j = absurd i
  gives_same w (Some p) None got k s t u i j = i.2 ∙ sym j.2
  gives_same w (Some p) (Some e) got k s t u i j = enters_same stores g s p e e t u i.1 j.1

  pub reaches_same : (k : Control) (s t u : System S) (ns : List Note) → Reaches stores g k s ns t
      → Reaches stores g k s ns u → t ≡ u
  reaches_same k s t u [] r q = sym r ∙ q
  reaches_same k s t u (n ∷ ns) r q =
      let same : q.0 ≡ r.0 = gives_same n.worker n.given n.event n.got k s q.0 r.0 q.1.gives r.1.gives in
      reaches_same (after_note n k) r.0 t u ns r.2 (subst (λ x. Reaches stores g (after_note n k) x ns u) same q.2)

  pub reaches_front : (k : Control) (s t : System S) (ns ms : List Note) → Reaches stores g k s (ns ++ ms) t
      → (u : System S) × Reaches stores g k s ns u × Reaches stores g (after_notes ns k) u ms t
  reaches_front k s t [] ms r = (s, refl, r)
  reaches_front k s t (n ∷ ns) ms r = let o = reaches_front (after_note n k) r.0 t ns ms r.2 in
      (o.0, (r.0, r.1, o.1), o.2)

  -- ---- what is out with a worker

  stays_by : (v : ℕ) (give : Option ℕ) (e : Option Event) (got : Option ℕ) (k : Control) (s t : System S) → IsOrderly k
      → AgreesWithSystem k s → GiveIsLegal stores g k s v give e got t
      → GetIsLegal stores g (after_give give e got k) e got
      → (p w : ℕ) (c : Config (Memory S)) → v ≢ w → k.doing p ≡ Out w → s.condition p ≡ Working c
      → ((takes v got (after_give give e got k)).doing p ≡ Out w) × (t.condition p ≡ Working c)
  stays_by v give e got k s t h a i j p w c apart out runs = go give e got i j
    where
      same_worker : (d : Doing) (x y : ℕ) → d ≡ Out x → d ≡ Out y → x ≡ y
      same_worker d x y e f = cc

      taken : (m : Control) → m.doing p ≡ Out w → (got : Option ℕ) → IsGot m got → (takes v got m).doing p ≡ Out w
      taken m o None f = o
      taken m o (Some q) f = at_other m.doing q p (Out v)
          (λ is. let r : m.doing p ≡ Ready = ap m.doing (sym is) ∙ f.1 in absurd (cc (r, o))) ∙ o

      left : (o : Option ℕ) → ((q : ℕ) → o ≡ Some q → k.doing q ≡ Out v) → (abandons o k).doing p ≡ Out w
      left None f = out
      left (Some q) f = at_other k.doing q p Gone
          (λ is. apart (same_worker (k.doing p) v w (ap k.doing (sym is) ∙ f q refl) out)) ∙ out

      go : (give : Option ℕ) (e : Option Event) (got : Option ℕ) → GiveIsLegal stores g k s v give e got t
          → GetIsLegal stores g (after_give give e got k) e got
          → ((takes v got (after_give give e got k)).doing p ≡ Out w)
          × (t.condition p ≡ Working c)
      go None None None i j = (left None (λ q f. absurd (cc f)), ap (λ (x : System S). x.condition p) i ∙ runs)
      go None None (Some q) i j = (
        taken k out (Some q) (got_of k h (Some q) (sym j)),
        ap (λ (x : System S). x.condition p) i ∙ runs,
      )
      go None (Some e) got i j = absurd i
      go (Some q) None None i j = (
        left (Some q) (λ r f. subst (λ x. k.doing x ≡ Out v) (same_Some _ _ f) i.0),
        ap (λ (x : System S). x.condition p) i.2 ∙ runs,
      )
      go (Some q) None (Some r) i j = absurd (cc (i.1))
      go (Some q) (Some e) got i j =
          let other : q ≢ p = λ is. apart (same_worker (k.doing p) v w (ap k.doing (sym is) ∙ i.0) out) in
          let (_, _, turn, _, _, leads) = i.1 in
          let m : Control = comes_back q e k in (
            taken m (back_out k h p w q out other e) got (got_of m (orderly_back k h q v e i.0) got j),
            ap (λ (x : System S). x.condition p) leads
                ∙ after_same stores g s p q c runs
                (subst (λ (b : Births). p < b.processes) a.births (out_there h p w out)) other turn,
          )

  -- while its worker leaves no note, a process that is out is as it was
  pub stays : (k : Control) (s t : System S) (ns : List Note) → IsOrderly k → AgreesWithSystem k s
      → Reaches stores g k s ns t
      → (p w : ℕ) (c : Config (Memory S)) → NoneBy w ns → k.doing p ≡ Out w → s.condition p ≡ Working c
      → ((after_notes ns k).doing p ≡ Out w) × (t.condition p ≡ Working c)
  stays k s t [] h a r p w c none out runs = (out, ap (λ (x : System S). x.condition p) (sym r) ∙ runs)
  stays k s t (n ∷ ns) h a r p w c none out runs =
      let o = keeps k s r.0 n h a r.1 in
      let one = stays_by n.worker n.given n.event n.got k s r.0 h a r.1.gives r.1.gets p w c none.0 out runs in
      stays (after_note n k) r.0 t ns o.0 o.1 r.2 p w c none.1 one.0 one.1
