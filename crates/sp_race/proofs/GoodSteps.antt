-- A step that is made in a state that a schedule comes to, sets no fault and is ordered: such steps can be exchanged.
use Rattle.std.proofs.Common.{◌≡◌, ◌≢◌, ⊎_elim, inl, inr, List, [], ◌∷◌, ◌++◌, length, Option, Some, None, refl}
use Rattle.std.proofs.Common.{sym, ap, ◌∙◌, subst}
use Rattle.std.proofs.lemmas.Bool.{false≢true}
use Rattle.std.proofs.lemmas.Option.{none-some, same_Some}
use Rattle.sp_base.specs.declared.fault.Fault.{Fault}
use Rattle.sp_meaning.specs.Model.{Name, Channel, Totals, Language, Offering, State, Change, with_changes}
use Rattle.sp_meaning.specs.Steps.{ActOf, OfferOf, own_part, ActOutcome, Advances, Faulty, waiting_changes, act_outcome}
use Rattle.sp_meaning.specs.Steps.{cost, limit_fault}
use Rattle.sp_meaning.specs.Steps.{fault_or, step_outcome, result_of, step_with, step, HasNoFault, process_system, Laws}
use Rattle.sp_meaning.specs.Steps.{Sound, opening_state}
use Rattle.sp_meaning.specs.Disjoint.{AreParallel, Happens, IsDisjoint}
use Rattle.sp_meaning.specs.Schedules.{ScheduleLeads, IsStuck, EndsAlike}
use Rattle.sp_meaning.proofs.Maps.{same_or_not}
use Rattle.sp_meaning.proofs.Keys.{name_test}
use Rattle.sp_meaning.proofs.Frames.{IsOn, WritesTo, AllIn, all_in, forks_frame, pending_frame, fault_frame}
use Rattle.sp_meaning.proofs.Status.{Makes, working_stands, far, keeps_working, working_no_parent, on_partner}
use Rattle.sp_meaning.proofs.Status.{waiting_far, waiting_no_parent}
use Rattle.sp_meaning.proofs.Meeting.{waited}
use Rattle.sp_meaning.proofs.StepInvariants.{sound_kept}
use Rattle.sp_meaning.proofs.Parallel.{parallel}
use Rattle.sp_race.specs.Notes.{JudgeNotes, Note, with_judge_notes, notes_of, no_notes, IsKnowledge, KnowsBefore}
use Rattle.sp_race.specs.RunNotes.{WithNotes, notes_after, noted_step_of, step_with_notes, system_with_notes}
use Rattle.sp_race.specs.OrderedRuns.{IsOrderedRun}
use Rattle.sp_race.proofs.Diamond.{CommutingSteps, GoodRun, ends_alike}
use Rattle.sp_race.proofs.NotesFrames.{notes_in, events_frame, past_frame, offers_frame, notes_same, all_notes_swap}
use Rattle.sp_race.proofs.NotesFrames.{offers_grow, known_kept}
use Rattle.sp_race.proofs.Exchanges.{Touches, exchange}
use Rattle.sp_race.proofs.Rendezvous.{ExchangedTo, met_first, waits_first}
use Rattle.sp_race.proofs.Partners.{TakesPart, accessor, clash_or_off, knows_same, part_alone, parts_apart, writer}

-- Steps and their changes
pub steps : {L : Language} {limits : Totals} (s : State L) (p : Name) (cs : List (Change L)) → Makes limits s p cs
    → step limits s p ≡ Some (with_changes cs s)
steps {L} {limits} s p cs m =
    let a = L.next m.own s.store in
    ap (step_with limits s p) m.works ∙ ap (λ x. Some (result_of s p x))
    (ap (λ x. fault_or x (act_outcome s p a)) m.within ∙ m.does)

pub record Made {L : Language} (limits : Totals) (s : State L) (p : Name) (t : State L) : Type 0 where
  pub cs : List (Change L)
  pub makes : Makes limits s p cs
  pub to : t ≡ with_changes cs s

pub made_of : {L : Language} {limits : Totals} (s : State L) (p : Name) (t : State L) → step limits s p ≡ Some t
    → HasNoFault t → Made limits s p t
made_of {L} {limits} s p t e no_fault = by_own (own_part s p) refl e
  where
    by_acts : (own : L.Own) → own_part s p ≡ Some own → (a : ActOf L) → L.next own s.store ≡ a → (x : ActOutcome L)
        → act_outcome s p a ≡ x → (f : Option Fault) → limit_fault limits s.totals (cost a) ≡ f
        → Some (result_of s p (fault_or f x)) ≡ Some t → Made limits s p t
    by_acts own w a is x e (Some f) g h = let k : (Some (p, f)) ≡ t.fault =
        ap (λ (z : State L). z.fault) (same_Some _ _ h) in absurd (none-some _ (sym (k ∙ no_fault)))
    by_acts own w a is (Faulty f) e None g h = let k : (Some (p, f)) ≡ t.fault =
        ap (λ (z : State L). z.fault) (same_Some _ _ h) in absurd (none-some _ (sym (k ∙ no_fault)))
    by_acts own w a is (Advances cs) e None g h = record {
      cs = cs;
      makes = record {
        own = own;
        works = w;
        within = subst (λ z. limit_fault limits s.totals (cost z) ≡ None) (sym is) g;
        does = subst (λ z. act_outcome s p z ≡ Advances cs) (sym is) e;
      };
      to = sym (same_Some _ _ h);
    }

    by_own : (o : Option L.Own) → own_part s p ≡ o → step_with limits s p o ≡ Some t → Made limits s p t
    by_own None w h = absurd (none-some _ h)
    by_own (Some own) w h = by_acts own w (L.next own s.store) refl (act_outcome s p (L.next own s.store)) refl
        (limit_fault limits s.totals (cost (L.next own s.store))) refl h

can_step : {L : Language} (limits : Totals) (s : State L) (p : Name) (t : State L) → step limits s p ≡ Some t
    → (own : L.Own) × (own_part s p ≡ Some own)
can_step {L} limits s p t e = by_own (own_part s p) refl e
  where
    by_own : (o : Option L.Own) → own_part s p ≡ o → step_with limits s p o ≡ Some t → (own : L.Own)
        × (own_part s p ≡ Some own)
    by_own None w h = absurd (none-some _ h)
    by_own (Some own) w h = (own, w)

pub leads_on : {L : Language} (limits : Totals) (ps rs : List Name) (s t u : State L)
    → ScheduleLeads (process_system L limits) s ps t → ScheduleLeads (process_system L limits) t rs u
    → ScheduleLeads (process_system L limits) s (ps ++ rs) u
leads_on {L} limits [] rs s t u h k = subst (λ z. ScheduleLeads (process_system L limits) z rs u) h k
leads_on limits (p ∷ ps) rs s t u (next, unfaulted, goes, more) k =
    (next, unfaulted, goes, leads_on limits ps rs next t u more k)

pub happens_later : {L : Language} (limits : Totals) (it : State L → Name → L.Own → Type 0) (ps rs : List Name)
    (s t : State L) → ScheduleLeads (process_system L limits) s ps t → Happens limits it t rs
    → Happens limits it s (ps ++ rs)
happens_later {L} limits it [] rs s t h k = subst (λ z. Happens limits it z rs) h k
happens_later limits it (p ∷ ps) rs s t (next, _, goes, more) k =
    inr (next, goes, happens_later limits it ps rs next t more k)

-- what p's step leaves of q's notes: q steps by an act that is on another channel
module _ {L : Language} {limits : Totals} (s : State L) (n : JudgeNotes) (p : Name) (cs : List (Change L))
    (sound : Sound s)
    (does : Makes limits s p cs) where
  abbrev ns : List Note
  ns = notes_of s n p (L.next does.own s.store)

  pub events_kept : (q : Name) (own : L.Own) → q ≢ p → own_part s q ≡ Some own → (with_judge_notes ns n).events q
      ≡ n.events q
  events_kept q own apart w = events_frame s p (L.next does.own s.store) q
      (far s p cs sound does q apart (working_stands s.condition q (s.condition q) own w)) ns n
      (notes_in s n p (L.next does.own s.store))

  pub past_kept : (q : Name) (own : L.Own) → q ≢ p → own_part s q ≡ Some own → (with_judge_notes ns n).past q ≡ n.past q
  past_kept q own apart w = past_frame s p (L.next does.own s.store) q
      (far s p cs sound does q apart (working_stands s.condition q (s.condition q) own w))
      (working_no_parent s p cs sound does q own w) ns n (notes_in s n p (L.next does.own s.store))

  -- the notes of q's act are the same before p's step and after it
  pub notes_kept : (q : Name) (own : L.Own) (b : ActOf L) → q ≢ p → own_part s q ≡ Some own
      → ((c : Channel) → IsOn (L.next does.own s.store) c → IsOn b c → ⊥)
      → notes_of (with_changes cs s) (with_judge_notes ns n) q b ≡ notes_of s n q b
  notes_kept q own b apart w off =
      let a = L.next does.own s.store in
      let i = all_in s p a cs does.does in
      notes_same (with_changes cs s) s (with_judge_notes ns n) n q b
      (forks_at q apart cs i)
      (events_kept q own apart w)
      (past_kept q own apart w)
      (λ c on. pending_frame s p a c (λ h. off c h on) cs s i)
      (λ z h.
      let k = on_partner s p cs sound does b z h in
      let g = waiting_far s p cs sound does k.0 z k.2 (λ on. off k.0 on k.1) in (
        events_frame s p a z g ns n (notes_in s n p a),
        past_frame s p a z g (waiting_no_parent s p cs sound does k.0 z k.2) ns n (notes_in s n p a),
      ))
    where
      forks_at : (q : Name) → q ≢ p → (cs : List (Change L)) → AllIn s p (L.next does.own s.store) cs
          → (with_changes cs s).forks q ≡ s.forks q
      forks_at q apart cs i = forks_frame s p (L.next does.own s.store) q apart cs s i

-- A good step: made in a state that a schedule comes to, by these changes, without a fault and in order
pub record GoodStep {L : Language} (limits : Totals) (origin : State L) (j : WithNotes L) (p : Name) (k : WithNotes L) :
    Type 0 where
  pub way : List Name
  pub leads : ScheduleLeads (process_system L limits) origin way j.state
  pub sound : Sound j.state
  pub known : IsKnowledge j.notes
  pub no_fault : HasNoFault j.state
  pub cs : List (Change L)
  pub makes : Makes limits j.state p cs
  pub to : k.state ≡ with_changes cs j.state
  pub noted : k.notes ≡ notes_after j.state j.notes p (L.next makes.own j.state.store)
  pub knows : KnowsBefore L j.notes p (L.next makes.own j.state.store)

pub no_fault_after : {L : Language} {limits : Totals} (s : State L) (p : Name) (cs : List (Change L))
    → Makes limits s p cs
    → HasNoFault s → HasNoFault (with_changes cs s)
no_fault_after {L} s p cs m q = fault_frame s p (L.next m.own s.store) cs s (all_in s p
    (L.next m.own s.store) cs m.does)
    ∙ q

module _ {L : Language} (limits : Totals) (laws : Laws L) (origin : State L)
    (disjoint : IsDisjoint L limits origin) where
  -- what p writes in s, q does not access in the state after; and what q writes there, p does not access in s
  module _ (s : State L) (p q : Name) (cs ds : List (Change L)) (way : List Name)
      (leads : ScheduleLeads (process_system L limits) origin way s) (sound : Sound s) (no_fault : HasNoFault s)
      (one : Makes limits s p cs)
      (two : Makes limits (with_changes cs s) q ds) (apart : p ≢ q) (w : own_part s q ≡ Some two.own)
      (off : (c : Channel) → IsOn (L.next one.own s.store) c → IsOn (L.next two.own (with_changes cs s).store) c
      → ⊥) where
    full : ScheduleLeads (process_system L limits) origin (way ++ p ∷ q ∷ []) (with_changes ds (with_changes cs s))
    full = leads_on limits way (p ∷ q ∷ []) origin s (with_changes ds (with_changes cs s)) leads (
      with_changes cs s,
      no_fault,
      steps s p cs one,
      (
        with_changes ds (with_changes cs s),
        no_fault_after s p cs one no_fault,
        steps
            (with_changes cs s) q ds two,
        refl,
      ),
    )

    at_p : (it : State L → Name → L.Own → Type 0) → it s p one.own → Happens limits it origin (way ++ p ∷ q ∷ [])
    at_p it h = happens_later limits it way (p ∷ q ∷ []) origin s leads (inl (one.own, one.works, h))

    at_q : (it : State L → Name → L.Own → Type 0) → it (with_changes cs s) q two.own
        → Happens limits it origin (way ++ p ∷ q ∷ [])
    at_q it h = happens_later limits it way (p ∷ q ∷ []) origin s leads
        (inr (with_changes cs s, steps s p cs one, inl (two.own, two.works, h)))

    part_back : (who : Name) → TakesPart (with_changes cs s) q (L.next two.own (with_changes cs s).store) who
        → TakesPart s q (L.next two.own (with_changes cs s).store) who
    part_back who h = ⊎_elim (λ (e : who ≡ q). inl e)
        (λ (x : (c : Channel) × IsOn (L.next two.own (with_changes cs s).store) c
        × ((with_changes cs s).pending c ≡ Some who)).
        inr (
          x.0,
          x.1,
          sym (pending_frame s p (L.next one.own s.store) x.0 (λ on. off x.0 on x.1) cs s
              (all_in s p (L.next one.own s.store) cs one.does)) ∙ x.2,
        )) h

    two_parallel : (x y : Name) → TakesPart s p (L.next one.own s.store) x
        → TakesPart s q (L.next two.own (with_changes cs s).store) y → AreParallel x y
    two_parallel x y h k = parallel s x y sound (part_alone s sound p one.own (L.next one.own s.store) x one.works h)
        (part_alone s sound q two.own (L.next two.own (with_changes cs s).store) y w k)
        (parts_apart s sound p q one.own two.own (L.next one.own s.store) (L.next two.own (with_changes cs s).store) x
        y apart
        one.works w off h k)

    flip : (x y : Name) → AreParallel x y → AreParallel y x
    flip x y h = record {
      common = h.common;
      fork = h.fork;
      first = h.second;
      second = h.first;
      apart = λ e. h.apart (sym e);
      after_one = h.after_other;
      after_other = h.after_one;
      a_is = h.b_is;
      b_is = h.a_is;
    }

    free_one : (l : L.Loc) → WritesTo s (L.next one.own s.store) l → Touches (with_changes cs s) two.own l → ⊥
    free_one l h k =
        let x = writer s p one.own l h in
        let y = accessor (with_changes cs s) q two.own l k in
        disjoint (way ++ p ∷ q ∷ []) (with_changes ds (with_changes cs s)) full x.who y.who
        (two_parallel x.who y.who x.part (part_back y.who y.part)) l (at_p _ x.writes) (at_q _ y.accesses)

    free_two : (l : L.Loc) → WritesTo (with_changes cs s) (L.next two.own (with_changes cs s).store) l
        → Touches s one.own l → ⊥
    free_two l h k =
        let x = accessor s p one.own l k in
        let y = writer (with_changes cs s) q two.own l h in
        disjoint (way ++ p ∷ q ∷ []) (with_changes ds (with_changes cs s)) full y.who x.who
        (flip x.who y.who (two_parallel x.who y.who x.part (part_back y.who y.part))) l (at_q _ y.writes)
        (at_p _ x.accesses)

  -- the exchange of two good steps
  exchanged : (s : State L) (n : JudgeNotes) (p q : Name) (cs ds : List (Change L)) (way : List Name)
      → ScheduleLeads (process_system L limits) origin way s → (sound : Sound s) → IsKnowledge n → HasNoFault s
      → (one : Makes limits s p cs) → (two : Makes limits (with_changes cs s) q ds) → p ≢ q
      → (w : own_part s q ≡ Some two.own)
      → KnowsBefore L n p (L.next one.own s.store)
      → KnowsBefore L (notes_after s n p (L.next one.own s.store)) q (L.next two.own (with_changes cs s).store)
      → ExchangedTo limits s n p q (L.next one.own s.store) (L.next two.own (with_changes cs s).store)
      (with_changes ds (with_changes cs s))
      (notes_after (with_changes cs s) (notes_after s n p (L.next one.own s.store)) q
      (L.next two.own (with_changes cs s).store))
  exchanged s n p q cs ds way leads sound known no_fault one two apart w kp kq = ⊎_elim
      (λ (h : (o : OfferOf L) × (r : OfferOf L) × (L.next one.own s.store ≡ Offering o)
      × (L.next two.own (with_changes cs s).store ≡ Offering r) × (o.channel ≡ r.channel)).
      let (o, r, offers, offers_next, meets) = h in
      let does : act_outcome s p (Offering o) ≡ Advances cs =
      subst (λ x. act_outcome s p x ≡ Advances cs) offers one.does in
      elim (s.pending o.channel) as (λ m. s.pending o.channel ≡ m
      → ExchangedTo limits s n p q (L.next one.own s.store) (L.next two.own (with_changes cs s).store)
      (with_changes ds (with_changes cs s))
      (notes_after (with_changes cs s) (notes_after s n p (L.next one.own s.store)) q
      (L.next two.own (with_changes cs s).store))) [
        | Some z ↦ λ pe. absurd (met_first s n p q cs sound known one two.own o r z offers meets (λ e. apart (sym e)) w
            pe (subst (λ x. KnowsBefore L (notes_after s n p (L.next one.own s.store)) q x) offers_next kq))
        | None ↦ λ pe. waited_first s n p q cs ds sound one two o r offers offers_next meets (λ e. apart (sym e)) w pe
            kp kq (waited s p o cs pe does)
      ] refl)
      (λ (off : (c : Channel) → IsOn (L.next one.own s.store) c
      → IsOn (L.next two.own (with_changes cs s).store) c → ⊥).
      let x = exchange laws s p q cs ds two.own sound one two (λ e. apart (sym e)) w off
      (free_one s p q cs ds way leads sound no_fault one two apart w off)
      (free_two s p q cs ds way leads sound no_fault one two apart w off) in
      let a = L.next one.own s.store in
      let b = L.next two.own (with_changes cs s).store in
      let c = L.next x.first.own s.store in
      let off' : (d : Channel) → IsOn c d → IsOn a d → ⊥ = λ d h k. off d k (subst (λ z. IsOn z d) x.first_act h) in
      let ns = notes_of s n p a in
      let ms = notes_of s n q b in
      let later : notes_of (with_changes cs s) (with_judge_notes ns n) q b ≡ ms =
      notes_kept s n p cs sound one q two.own b (λ e. apart (sym e)) w off in
      let earlier : notes_of (with_changes ds s) (with_judge_notes (notes_of s n q c) n) p a ≡ ns =
      notes_kept s n q ds sound x.first p one.own a apart one.works off' in
      let first_ms : notes_of s n q c ≡ ms = ap (notes_of s n q) x.first_act in
      let then_ns : notes_of (with_changes ds s) (with_judge_notes ms n) p a ≡ ns =
      subst (λ z. notes_of (with_changes ds s) (with_judge_notes z n) p a ≡ ns) first_ms earlier in
      record {
        ds = ds;
        first = x.first;
        first_act = x.first_act;
        knows_first = knows_same L (with_judge_notes ns n) n q b (λ d v e on h. offers_grow ns n d v e h)
            (past_kept s n p cs sound one q two.own (λ e. apart (sym e)) w) kq;
        cs = cs;
        second = x.second;
        second_act = x.second_act;
        knows_second = knows_same L n (with_judge_notes ms n) p a
            (λ d v e on h. ap (λ f. f e) (sym (offers_frame s q b d v (λ k. off d on k) ms n (notes_in s n q b))) ∙ h)
            (sym (ap (λ z. (with_judge_notes z n).past p) (sym first_ms)
            ∙ past_kept s n q ds sound x.first p one.own apart one.works)) kp;
        commute = x.commute;
        same_notes = ap (λ z. with_judge_notes z (with_judge_notes ns n)) later ∙ all_notes_swap ns ms n
            ∙ ap (λ z. with_judge_notes z (with_judge_notes ms n)) (sym then_ns);
      })
      (clash_or_off L (L.next one.own s.store) (L.next two.own (with_changes cs s).store))
    where
      waited_first : (s : State L) (n : JudgeNotes) (p q : Name) (cs ds : List (Change L)) → Sound s
          → (one : Makes limits s p cs) → (two : Makes limits (with_changes cs s) q ds) → (o r : OfferOf L)
          → L.next one.own s.store ≡ Offering o → L.next two.own (with_changes cs s).store ≡ Offering r
          → o.channel ≡ r.channel
          → q ≢ p → own_part s q ≡ Some two.own → s.pending o.channel ≡ None
          → KnowsBefore L n p (L.next one.own s.store)
          → KnowsBefore L (notes_after s n p (L.next one.own s.store)) q (L.next two.own (with_changes cs s).store)
          → cs ≡ waiting_changes s p o
          → ExchangedTo limits s n p q (L.next one.own s.store) (L.next two.own (with_changes cs s).store)
          (with_changes ds (with_changes cs s))
          (notes_after (with_changes cs s) (notes_after s n p (L.next one.own s.store)) q
          (L.next two.own (with_changes cs s).store))
      waited_first s n p q cs ds sound one two o r is1 is2 e apart w pe kp kq list =
          let n1 = notes_after s n p (Offering o) in
          let there : (two : Makes limits (with_changes cs s) q ds) → L.next two.own (with_changes cs s).store
          ≡ Offering r
          → own_part s q ≡ Some two.own → KnowsBefore L n1 q (Offering r)
          → ExchangedTo limits s n p q (Offering o) (Offering r) (with_changes ds (with_changes cs s))
          (notes_after (with_changes cs s) n1 q (Offering r)) =
          subst (λ es. (two : Makes limits (with_changes es s) q ds) → L.next two.own (with_changes es s).store
          ≡ Offering r
          → own_part s q ≡ Some two.own → KnowsBefore L n1 q (Offering r)
          → ExchangedTo limits s n p q (Offering o) (Offering r) (with_changes ds (with_changes es s))
          (notes_after (with_changes es s) n1 q (Offering r))) (sym list)
          (λ two is2 w kq. waits_first s n p q ds sound one.own o r one.works is1 two is2 e apart w pe
          (subst (λ x. KnowsBefore L n p x) is1 kp) kq) in
          let x = there two is2 w (subst (λ y. KnowsBefore L (notes_after s n p y) q (Offering r)) is1
          (subst (λ y. KnowsBefore L (notes_after s n p (L.next one.own s.store)) q y) is2 kq)) in
          subst (λ a. ExchangedTo limits s n p q a (L.next two.own (with_changes cs s).store)
          (with_changes ds (with_changes cs s))
          (notes_after (with_changes cs s) (notes_after s n p a) q (L.next two.own (with_changes cs s).store)))
          (sym is1)
          (subst (λ b. ExchangedTo limits s n p q (Offering o) b (with_changes ds (with_changes cs s))
          (notes_after (with_changes cs s) n1 q b)) (sym is2) x)

  abbrev to_notes : State L → JudgeNotes → WithNotes L
  to_notes s n = record { state = s; notes = n }

  -- the step of a good step
  made_step : (j : WithNotes L) (p : Name) (k : WithNotes L) → GoodStep limits origin j p k
      → step_with_notes limits j p ≡ Some k
  made_step j p k g =
      let a = L.next g.makes.own j.state.store in
      let out : step_outcome limits j.state p a ≡ Advances g.cs =
      ap (λ x. fault_or x (act_outcome j.state p a)) g.makes.within
      ∙ g.makes.does in
      ap (noted_step_of limits j p) g.makes.works
      ∙ (λ i. Some (to_notes (result_of j.state p (out i)) (notes_after j.state j.notes p a)))
      ∙ (λ i. Some (to_notes (sym g.to i) (sym g.noted i)))

  -- who can step
  noted_can : (j : WithNotes L) (p : Name) (m : WithNotes L) → step_with_notes limits j p ≡ Some m → (own : L.Own)
      × (own_part j.state p ≡ Some own)
  noted_can j p m e = by_own (own_part j.state p) refl e
    where
      by_own : (o : Option L.Own) → own_part j.state p ≡ o → noted_step_of limits j p o ≡ Some m → (own : L.Own)
          × (own_part j.state p ≡ Some own)
      by_own None w h = absurd (none-some _ h)
      by_own (Some own) w h = (own, w)

  -- two good steps, of which the second could have been made first
  pub good_exchange : (s : WithNotes L) (p q : Name) (s1 s2 m : WithNotes L) → p ≢ q → GoodStep limits origin s p s1
      → GoodStep limits origin s1 q s2 → step_with_notes limits s q ≡ Some m
      → GoodStep limits origin s q m × GoodStep limits origin m p s2
  good_exchange s p q s1 s2 m apart g h e =
      let n1 = notes_after s.state s.notes p (L.next g.makes.own s.state.store) in
      let here : s1 ≡ to_notes (with_changes g.cs s.state) n1 = λ i. to_notes (g.to i) (g.noted i) in
      let h' : GoodStep limits origin (to_notes (with_changes g.cs s.state) n1) q s2 =
      subst (λ z. GoodStep limits origin z q s2) here h in
      let w = noted_can s q m e in
      let k = keeps_working s.state p g.cs g.sound g.makes q w.0 (λ x. apart (sym x)) w.1 in
      let own : w.0 ≡ h'.makes.own = same_Some _ _ (sym k ∙ h'.makes.works) in
      let x = exchanged s.state s.notes p q g.cs h'.cs g.way g.leads g.sound g.known g.no_fault g.makes h'.makes apart
      (subst (λ z. own_part s.state q ≡ Some z) own w.1) g.knows h'.knows in
      let b = L.next h'.makes.own (with_changes g.cs s.state).store in
      let c = L.next x.first.own s.state.store in
      let mid : WithNotes L = to_notes (with_changes x.ds s.state) (notes_after s.state s.notes q c) in
      let one : GoodStep limits origin s q mid =
      record {
        way = g.way;
        leads = g.leads;
        sound = g.sound;
        known = g.known;
        no_fault = g.no_fault;
        cs = x.ds;
        makes =
            x.first;
        to = refl;
        noted = refl;
        knows =
            subst (λ a. KnowsBefore L s.notes q a) (sym x.first_act) x.knows_first;
      } in
      let m_is : mid ≡ m = same_Some _ _ (sym (made_step s q mid one) ∙ e) in
      let by_c : notes_after s.state s.notes q b ≡ notes_after s.state s.notes q c =
      ap (notes_after s.state s.notes q) (sym x.first_act) in
      let d = L.next x.second.own (with_changes x.ds s.state).store in
      let two : GoodStep limits origin mid p s2 = record {
        way = g.way ++ q ∷ [];
        leads = leads_on limits g.way (q ∷ []) origin s.state (with_changes x.ds s.state) g.leads (
          with_changes x.ds s.state,
          g.no_fault,
          steps s.state q x.ds x.first,
          refl,
        );
        sound = sound_kept s.state q x.ds g.sound x.first;
        known = known_kept s.notes g.known s.state q c;
        no_fault = no_fault_after s.state q x.ds x.first g.no_fault;
        cs = x.cs;
        makes = x.second;
        to = h'.to ∙ x.commute;
        noted = h'.noted ∙ x.same_notes
            ∙ (λ i. notes_after (with_changes x.ds s.state) (by_c i) p (sym x.second_act i));
        knows = subst (λ a. KnowsBefore L (notes_after s.state s.notes q c) p a) (sym x.second_act)
            (subst (λ z. KnowsBefore L z p (L.next g.makes.own s.state.store)) by_c x.knows_second);
      } in
      (subst (λ z. GoodStep limits origin s q z) m_is one, subst (λ z. GoodStep limits origin z p s2) m_is two)

  good : CommutingSteps (system_with_notes L limits)
  good = record {
    Step = GoodStep limits origin;
    no_fault_before = λ s p t g. g.no_fault;
    made = made_step;
    no_fault_after = λ s p t g. subst HasNoFault (sym g.to) (no_fault_after s.state p g.cs g.makes g.no_fault);
    same_or_not = same_or_not name_test;
    persists = λ s p q s1 m apart g e.
        let w = noted_can s q m e in
        let k = keeps_working s.state p g.cs g.sound g.makes q w.0 (λ x. apart (sym x)) w.1 in
        let k1 : own_part s1.state q ≡ Some w.0 = subst (λ (z : State L). own_part z q ≡ Some w.0) (sym g.to) k in
        (_, ap (noted_step_of limits s1 q) k1);
    exchange = λ s p q s1 s2 m apart g h e. good_exchange s p q s1 s2 m apart g h e;
  }

  -- an ordered run without a fault is one of good steps
  good_run : (ps : List Name) (way : List Name) (s t : State L) (n : JudgeNotes)
      → ScheduleLeads (process_system L limits) origin way s
      → Sound s → IsKnowledge n → ScheduleLeads (process_system L limits) s ps t → HasNoFault t
      → IsOrderedRun limits s n ps → (m : JudgeNotes)
      × GoodRun good (to_notes s n) ps (to_notes t m)
  unfolding good
  good_run [] way s t n before sound known l q o = (n, λ i. to_notes (l i) n)
  good_run (p ∷ ps) way s t n before sound known (to, unfaulted, goes, more) q o =
      let no_fault_m = after_no_fault ps to t more q in
      let x = made_of s p to goes no_fault_m in
      let a = L.next x.makes.own s.store in
      let n1 = notes_after s n p a in
      let next : ScheduleLeads (process_system L limits) origin (way ++ p ∷ []) to =
      leads_on limits way (p ∷ []) origin s to before (to, unfaulted, goes, refl) in
      let rest = good_run ps (way ++ p ∷ []) to t n1 next (subst Sound (sym x.to) (sound_kept s p x.cs sound x.makes))
      (known_kept n known s p a) more q (o.1 x.makes.own to x.makes.works goes) in (
        rest.0,
        (
          to_notes to n1,
          record {
            way = way;
            leads = before;
            sound = sound;
            known = known;
            no_fault = unfaulted;
            cs = x.cs;
            makes = x.makes;
            to = x.to;
            noted = refl;
            knows = o.0 x.makes.own x.makes.works;
          },
          rest.1,
        ),
      )
    where
      after_no_fault : (ps : List Name) (m t : State L) → ScheduleLeads (process_system L limits) m ps t → HasNoFault t
          → HasNoFault m
      after_no_fault [] m t l q = subst HasNoFault l q
      after_no_fault (p ∷ ps) m t l q = l.1

-- Every schedule of the model is one with notes, and the other way round

pub record Noted {L : Language} (limits : Totals) (s : State L) (n : JudgeNotes) (ps : List Name) (t : State L) : Type
    0 where
  pub notes : JudgeNotes
  pub leads : ScheduleLeads (system_with_notes L limits) (record { state = s; notes = n }) ps
      (record { state = t; notes = notes })

pub noted_run : {L : Language} (limits : Totals) (ps : List Name) (s t : State L) (n : JudgeNotes)
    → ScheduleLeads (process_system L limits) s ps t → Noted limits s n ps t
noted_run limits [] s t n l = record { notes = n; leads = λ i. record { state = l i; notes = n } }
noted_run {L} limits (p ∷ ps) s t n (m, unfaulted, goes, more) =
    let w = can_step limits s p m goes in
    let n1 = notes_after s n p (L.next w.0 s.store) in
    let is : result_of s p (step_outcome limits s p (L.next w.0 s.store)) ≡ m =
    same_Some _ _ (sym (ap (step_with limits s p) w.1) ∙ goes) in
    let r = noted_run limits ps m t n1 more in
    record {
      notes = r.notes;
      leads = (
        record { state = m; notes = n1 },
        unfaulted,
        ap (noted_step_of limits (record { state = s; notes = n }) p) w.1
            ∙ (λ i. Some (record { state = is i; notes = n1 })),
        r.leads,
      );
    }

pub unnoted_run : {L : Language} (limits : Totals) (ps : List Name) (j k : WithNotes L)
    → ScheduleLeads (system_with_notes L limits) j ps k → ScheduleLeads (process_system L limits) j.state ps k.state
unnoted_run limits [] j k l = ap (λ (z : WithNotes _). z.state) l
unnoted_run {L} limits (p ∷ ps) j k (m, unfaulted, goes, more) = (
  m.state,
  unfaulted,
  unnoted (own_part j.state p) refl goes,
  unnoted_run limits ps m k more,
)
  where
    unnoted : (o : Option L.Own) → own_part j.state p ≡ o → noted_step_of limits j p o ≡ Some m
        → step limits j.state p ≡ Some m.state
    unnoted None w h = absurd (none-some _ h)
    unnoted (Some own) w h = ap (step_with limits j.state p) w
        ∙ ap (λ x. Some x) (ap (λ (z : WithNotes L). z.state) (same_Some _ _ h))

pub knows_nothing : IsKnowledge no_notes
knows_nothing q e h = absurd (false≢true h)

pub sound_opening : (L : Language) (own : L.Own) (store : L.Loc → L.Value) → Sound (opening_state L own store)
sound_opening L own store = record {
  waits = λ c z e. absurd (none-some _ e);
  unborn = λ z k i h. refl;
  joined = λ z k i h. absurd h;
}

-- where one run is ordered, each schedule ends as it does
pub confluence : (L : Language) (limits : Totals) (own : L.Own) (store : L.Loc → L.Value) → Laws L
    → IsDisjoint L limits (opening_state L own store)
    → (ps : List Name) (t : State L) → ScheduleLeads (process_system L limits) (opening_state L own store) ps t
    → HasNoFault t
    → IsStuck (process_system L limits) t → IsOrderedRun limits (opening_state L own store) no_notes ps
    → (qs : List Name) (u : State L) → ScheduleLeads (process_system L limits) (opening_state L own store) qs u
    → EndsAlike (process_system L limits) (opening_state L own store) (length ps) t qs u
confluence L limits own store laws disjoint ps t leads no_fault stuck ordered qs u other =
    let origin = opening_state L own store in
    let g = good limits laws origin disjoint in
    let run = good_run limits laws origin disjoint ps [] origin t no_notes refl (sound_opening L own store)
    knows_nothing leads no_fault ordered in
    let o = noted_run limits qs origin u no_notes other in
    let x = ends_alike g qs ps (record { state = origin; notes = no_notes }) (record { state = t; notes = run.0 })
    (record { state = u; notes = o.notes }) refl run.1 (λ p. noted_stuck t run.0 p (stuck p)) o.leads in
    record {
      bounded = x.bounded;
      no_fault = x.no_fault;
      rest = x.rest;
      full = x.full;
      goes_on = unnoted_run limits x.rest (record { state = u; notes = o.notes })
          (record { state = t; notes = run.0 }) x.goes_on;
    }
  where
    noted_stuck : (t : State L) (n : JudgeNotes) (p : Name) → step limits t p ≡ None
        → step_with_notes limits (record { state = t; notes = n }) p ≡ None
    noted_stuck t n p h = by (own_part t p) refl
      where
        by : (o : Option L.Own) → own_part t p ≡ o → noted_step_of limits (record { state = t; notes = n }) p o ≡ None
        by None w = refl
        by (Some own) w = absurd (none-some _ (sym h ∙ ap (step_with limits t p) w))
