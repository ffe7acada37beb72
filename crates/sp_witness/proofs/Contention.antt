-- What the two offers of a witness meet: the earlier one finds nothing pending and waits, and the later one contends.
use Rattle.std.proofs.Common.{◌≡◌, ◌≢◌, ◌⊎◌, ⊎_elim, ℕ, Bool, true, cond, List, [], ◌∷◌, Option, Some, None, refl, sym}
use Rattle.std.proofs.Common.{ap, ◌∙◌, subst}
use Rattle.std.proofs.lemmas.Option.{none-some, same_Some}
use Rattle.sp_base.specs.declared.fault.Fault.TheVariants as fault
use Rattle.sp_journal.specs.declared.entry.Way.{Way}
use Rattle.sp_journal.specs.declared.entry.Way.TheVariants as way
use Rattle.sp_meaning.specs.Model.{Name, Channel, same_channel, Totals, Language, Moves, Opens, Forks, Offering}
use Rattle.sp_meaning.specs.Model.{EndsProcess}
use Rattle.sp_meaning.specs.Model.{MeetsFault, Payload, Message, Takes, Waits, Faults, with_change, with_changes}
use Rattle.sp_meaning.specs.Steps.{ActOf, OfferOf, Advances, Faulty, way_of, message, entry_cost, meeting_outcome}
use Rattle.sp_meaning.specs.Steps.{handover_outcome, offer_outcome}
use Rattle.sp_meaning.specs.Steps.{act_outcome, limit_fault, fault_or, step_outcome, result_of, step_with}
use Rattle.sp_meaning.specs.LocalWork.{RunInput, Process}
use Rattle.sp_meaning.specs.SuperPascal.{superpascal}
use Rattle.sp_meaning.specs.Entries.{Opened, Forked, Offered, Faulted}
use Rattle.sp_journal.specs.Names as happenings
use Rattle.sp_meaning.specs.Runs.{StateOf, total_limits, running_process, next_state, happening_of, happening_at}
use Rattle.sp_meaning.proofs.Maps.{same_or_not, itself}
use Rattle.sp_meaning.proofs.Keys.{name_test, channel_test}
use Rattle.sp_meaning.proofs.Frames.{IsOn, IsNear, all_in, condition_frame, pending_frame}
use Rattle.sp_meaning.proofs.Status.{waiting_far}
use Rattle.sp_meaning.proofs.Meeting.{met, waited}
use Rattle.sp_race.specs.Notes.{Event, JudgeNotes, with_judge_notes, next_event_of, offer_notes, notes_of}
use Rattle.sp_race.specs.RunNotes.{WithNotes, notes_after}
use Rattle.sp_race.proofs.NotesFrames.{notes_in, events_frame}
use Rattle.sp_race.proofs.Exchanges.{totals_made, passed_earlier}
use Rattle.sp_witness.proofs.Independent.{IsLocal}
use Rattle.sp_witness.proofs.IndependentSteps.{Head, Tag, Block, Does, Runs, BlockRuns}

-- an act says of an offer what it offers
pub record Offers (L : Language) (a : ActOf L) (w : Way) (c : Channel) : Type 0 where
  pub offer : OfferOf L
  pub offer_is : a ≡ Offering offer
  pub way_is : way_of offer.payload ≡ w
  pub channel_is : offer.channel ≡ c

pub offers_of : (L : Language) (a : ActOf L) (w : Way) (c : Channel)
    → happening_of {L = L} a (Advances []) ≡ Some (Offered w c) → Offers L a w c
offers_of L (Moves o ws) w c h = absurd (none-some _ h)
offers_of L (Opens o ws) w c h = absurd (differ (same_Some _ _ h))
  where
    differ : Opened ≡ Offered w c → ⊥
    differ e = cc
offers_of L (Forks o os) w c h = absurd (differ (same_Some _ _ h))
  where
    differ : {n : ℕ} → Forked n ≡ Offered w c → ⊥
    differ e = cc
offers_of L (Offering o) w c h =
    record {
      offer = o;
      offer_is = refl;
      way_is = way_same (same_Some _ _ h);
      channel_is = channel_same
          (same_Some _ _ h);
    }
  where
    way_same : {v : Way} {d : Channel} → Offered v d ≡ Offered w c → v ≡ w
    way_same e = cc

    channel_same : {v : Way} {d : Channel} → Offered v d ≡ Offered w c → d ≡ c
    channel_same e = cc
offers_of L EndsProcess w c h = absurd (differ (same_Some _ _ h))
  where
    differ : happenings.Ended ≡ Offered w c → ⊥
    differ e = cc
offers_of L (MeetsFault f) w c h = absurd (none-some _ h)

-- offers of one way have no message
no_message : {V T : Type 0} (a b : Payload V T) → way_of a ≡ way_of b → message a b ≡ None
no_message (Message v) (Message w) e = refl
no_message (Takes t) (Takes u) e = refl
no_message (Message v) (Takes t) e = absurd (ways e)
  where
    ways : way.Send ≡ way.Receive → ⊥
    ways h = cc
no_message (Takes t) (Message v) e = absurd (ways e)
  where
    ways : way.Receive ≡ way.Send → ⊥
    ways h = cc

module _ (g : RunInput) (label : ℕ → Option Event) where
  abbrev L : Language
  L = superpascal g

  module _ (s : WithNotes L) (h : Head) (x : Tag g) (m : WithNotes L) (does : Does g label s h x m) where
    abbrev act : ActOf L
    act = L.next does.good.makes.own s.state.store

    pub act_is : act ≡ x.act
    act_is = ap (λ o. L.next o s.state.store) (same_Some _ _ (sym does.good.makes.works ∙ does.fits.works))
        ∙ does.fits.act_is

    pub local_pending : IsLocal x.act → (c : Channel) → m.state.pending c ≡ s.state.pending c
    local_pending loc c = ap (λ (z : StateOf g). z.pending c) does.good.to
        ∙ pending_frame s.state h.who act c (off act (subst IsLocal (sym act_is) loc)) does.good.cs s.state
        (all_in s.state h.who act does.good.cs does.good.makes.does)
      where
        off : (a : ActOf L) → IsLocal a → IsOn a c → ⊥
        off (Moves o ws) k on = on
        off (Opens o ws) k on = on
        off (Forks o os) k on = on
        off (Offering o) k on = k
        off EndsProcess k on = on
        off (MeetsFault f) k on = on

    pub local_condition : IsLocal x.act → (r : Name) → r ≢ h.who → m.state.condition r ≡ s.state.condition r
    local_condition loc r apart = ap (λ (z : StateOf g). z.condition r) does.good.to
        ∙ condition_frame s.state h.who act r (out act (subst IsLocal (sym act_is) loc)) does.good.cs s.state
        (all_in s.state h.who act does.good.cs does.good.makes.does)
      where
        out : (a : ActOf L) → IsLocal a → IsNear s.state h.who a r → ⊥
        out (Moves o ws) k near = ⊎_elim apart (λ (z : ⊥ ⊎ ⊥). ⊎_elim (λ (y : ⊥). y) (λ (y : ⊥). y) z) near
        out (Opens o ws) k near = k
        out (Forks o os) k near = k
        out (Offering o) k near = k
        out EndsProcess k near = k
        out (MeetsFault f) k near = k

    -- a total that fits after the step fits before it
    pub fits_before : (c : Option Totals) → limit_fault (total_limits g) m.state.totals c ≡ None
        → limit_fault (total_limits g) s.state.totals c ≡ None
    fits_before c e = passed_earlier (total_limits g) s.state.totals _ c
        (subst (λ z. limit_fault (total_limits g) z c ≡ None) (ap (λ (z : StateOf g). z.totals) does.good.to
        ∙ totals_made s.state h.who act does.good.cs does.good.makes.does) e)

    -- each pending offer is an entry that is known
    module _ (known : ℕ → Bool) where
      abbrev pub PendsKnown : WithNotes L → Type 0
      PendsKnown u = (c : Channel) (z : Name) → u.state.pending c ≡ Some z
          → (k : ℕ) × (label k ≡ Some (next_event_of u.notes z)) × (known k ≡ true)

      pub pends_next : IsLocal x.act ⊎ (known h.position ≡ true) → PendsKnown s → PendsKnown m
      pends_next why pends c z e = by act refl
        where
          made : (with_changes does.good.cs s.state).pending c ≡ Some z
          made = sym (ap (λ (y : StateOf g). y.pending c) does.good.to) ∙ e

          -- an offer that was pending before
          old : (IsOn act c → ⊥) → (k : ℕ) × (label k ≡ Some (next_event_of m.notes z)) × (known k ≡ true)
          old off =
              let i = all_in s.state h.who act does.good.cs does.good.makes.does in
              let before : s.state.pending c ≡ Some z =
              sym (pending_frame s.state h.who act c off does.good.cs s.state i) ∙ made in
              let far = waiting_far s.state h.who does.good.cs does.good.sound does.good.makes c z
              (does.good.sound.waits c z before) off in
              let same : m.notes.events z ≡ s.notes.events z = ap (λ (v : JudgeNotes). v.events z) does.good.noted
              ∙ events_frame s.state h.who act z far (notes_of s.state s.notes h.who act) s.notes
              (notes_in s.state s.notes h.who act) in
              let k = pends c z before in
              (k.0, k.1 ∙ (λ i. Some (record { who = z; nth = sym same i })), k.2)

          by : (a : ActOf L) → act ≡ a → (k : ℕ) × (label k ≡ Some (next_event_of m.notes z)) × (known k ≡ true)
          by (Offering o) is = ⊎_elim
              (λ (on : o.channel ≡ c). offered_here on (s.state.pending o.channel) refl)
              (λ (off : o.channel ≢ c). old (λ on. off (subst (λ a. IsOn a c) is on)))
              (same_or_not channel_test o.channel c)
            where
              does_it : act_outcome s.state h.who (Offering o) ≡ Advances does.good.cs
              does_it = subst (λ a. act_outcome s.state h.who a ≡ Advances does.good.cs) is does.good.makes.does

              offered_here : o.channel ≡ c → (p : Option Name) → s.state.pending o.channel ≡ p
                  → (k : ℕ) × (label k ≡ Some (next_event_of m.notes z)) × (known k ≡ true)
              offered_here on None pe =
                  let list = waited s.state h.who o does.good.cs pe does_it in
                  let here : at_channel (Some h.who) ≡ Some z =
                  ap (λ ds. (with_changes ds s.state).pending c) (sym list)
                  ∙ made in
                  let who : h.who ≡ z =
                  same_Some _ _ (sym (ap (λ b. cond b (Some h.who) (s.state.pending c))
                  ((channel_test o.channel c).1 on))
                  ∙ here) in
                  let notes_are : m.notes ≡ s.notes = does.good.noted ∙ ap (λ a. notes_after s.state s.notes h.who a) is
                  ∙ ap (λ p. with_judge_notes (offer_notes s.notes h.who o.channel (way_of o.payload) p) s.notes) pe in
                  let own_label : label h.position ≡ Some (next_event_of s.notes h.who) =
                  ⊎_elim (λ (l : IsLocal x.act). absurd (subst IsLocal (sym act_is ∙ is) l))
                  (λ (e : label h.position ≡ Some (next_event_of s.notes h.who)). e) does.fits.named in
                  let is_known : known h.position ≡ true =
                  ⊎_elim (λ (l : IsLocal x.act). absurd (subst IsLocal (sym act_is ∙ is) l))
                  (λ (e : known h.position ≡ true). e) why in
                  (h.position, own_label ∙ (λ i. Some (next_event_of (sym notes_are i) (who i))), is_known)
                where
                  at_channel : Option Name → Option Name
                  at_channel v = cond (same_channel o.channel c) v (s.state.pending c)
              offered_here on (Some y) pe =
                  let list = (met s.state h.who o y does.good.cs pe does_it).made in
                  let here : cond (same_channel o.channel c) None (s.state.pending c) ≡ Some z =
                  ap (λ ds. (with_changes ds s.state).pending c) (sym list) ∙ made in
                  absurd (none-some _ (sym (ap (λ b. cond b None (s.state.pending c)) ((channel_test o.channel c).1 on))
                  ∙ here))
          by _ is = old (λ on. subst (λ a. IsOn a c) is on)

    -- an offer that finds nothing pending waits
    pub waits_here : (w : Way) (c : Channel) → (o : Offers L x.act w c) → s.state.pending c ≡ None
        → (m.state.pending c ≡ Some h.who) × (m.state.condition h.who ≡ Waits o.offer)
    waits_here w c o pe =
        let none : s.state.pending o.offer.channel ≡ None = ap s.state.pending o.channel_is ∙ pe in
        let list = waited s.state h.who o.offer does.good.cs none
        (subst (λ a. act_outcome s.state h.who a ≡ Advances does.good.cs)
        (act_is ∙ o.offer_is) does.good.makes.does) in (
          ap (λ (z : StateOf g). z.pending c) does.good.to ∙ ap (λ ds. (with_changes ds s.state).pending c) list
              ∙ ap (λ b. cond b (Some h.who) (s.state.pending c)) ((channel_test o.offer.channel c).1 o.channel_is),
          ap (λ (z : StateOf g). z.condition h.who) does.good.to
              ∙ ap (λ ds. (with_changes ds s.state).condition h.who) list
              ∙ ap (λ b. cond b (Waits o.offer) (s.state.condition h.who)) (itself name_test h.who),
        )

  pub block_fits : (c : Option Totals) (s t : WithNotes L) (h : Head) (xs : List (Tag g)) → Runs g label s h xs t
      → limit_fault (total_limits g) t.state.totals c ≡ None → limit_fault (total_limits g) s.state.totals c ≡ None
  block_fits c s t h [] r e = subst (λ (z : WithNotes L). limit_fault (total_limits g) z.state.totals c ≡ None) r e
  block_fits c s t h (x ∷ xs) r e = fits_before s h x r.0 r.1 c (block_fits c r.0 t h xs r.2 e)

  pub blocks_fit : (c : Option Totals) (s t : WithNotes L) (bs : List (Block g)) → BlockRuns g label s bs t
      → limit_fault (total_limits g) t.state.totals c ≡ None → limit_fault (total_limits g) s.state.totals c ≡ None
  blocks_fit c s t [] r e = subst (λ (z : WithNotes L). limit_fault (total_limits g) z.state.totals c ≡ None) r e
  blocks_fit c s t (b ∷ bs) r e = block_fits c s r.0 b.head b.tags r.1 (blocks_fit c r.0 t bs r.2 e)

  -- an offer of one way with a pending one
  pub contends : (s : StateOf g) (p q : Name) (own : Process) (w : Way) (c : Channel) → running_process g s q ≡ Some own
      → (o : Offers L (L.next own s.store) w c) → (other : OfferOf L) → s.pending c ≡ Some p
      → s.condition p ≡ Waits other → way_of other.payload ≡ w
      → limit_fault (total_limits g) s.totals (Some entry_cost) ≡ None
      → (happening_at g s q own ≡ Some (Faulted fault.F6))
      × (next_state g s q ≡ Some (with_change (Faults q fault.F6) s))
  contends s p q own w c run o other pe ce same fits =
      (ap (happening_of a) out, ap (step_with (total_limits g) s q) run ∙ ap (λ x. Some (result_of s q x)) out)
    where
      a : ActOf L
      a = L.next own s.store

      met_here : act_outcome s q (Offering o.offer) ≡ Faulty fault.F6
      met_here =
          ap (offer_outcome s q o.offer) (ap s.pending o.channel_is ∙ pe)
          ∙ ap (meeting_outcome s q o.offer p) ce
          ∙ ap (handover_outcome s q o.offer p other) (no_message o.offer.payload other.payload (o.way_is ∙ sym same))

      out : step_outcome (total_limits g) s q (L.next own s.store) ≡ Faulty fault.F6
      out = ap (step_outcome (total_limits g) s q) o.offer_is
          ∙ ap (λ f. fault_or f (act_outcome s q (Offering o.offer))) fits
          ∙ met_here
