-- A journal has one fault at most, and after it only Laid.
use Rattle.std.proofs.Common.{◌≡◌, ℕ, zero, suc, Bool, true, false, if◌then◌else◌, List, [], ◌∷◌, Option, Some, None}
use Rattle.std.proofs.Common.{refl, sym, ap, ◌∙◌}
use Rattle.std.specs.Prelude.{slice_get}
use Rattle.sp_base.specs.declared.fault.Fault.{Fault}
use Rattle.sp_journal.specs.declared.entry.Event.TheVariants as event
use Rattle.sp_journal.specs.declared.entry.Entry.{Entry}
use Rattle.sp_code.specs.Machine.{Stop, Forks}
use Rattle.sp_code.specs.Turns.{Turn, Stopped, Faulted}
use Rattle.sp_code.specs.Memory.{CodeRun, Stores, Memory}
use Rattle.sp_code.specs.Faults.{IsFaulty}
use Rattle.sp_code.specs.System.{System, event_at, event_or, event_of, fault_of, apply_unless_fault, lays}
use Rattle.sp_code.specs.System.{system_after_turn, config_of}
use Rattle.sp_code.specs.System.{EntriesLead}

-- what a process stops for is no fault
pub stop_not_fault : (stop : Stop) (f : Fault) → event_at stop ≡ event.Fault f → ⊥
stop_not_fault (Forks t v n) f e = cc e
stop_not_fault _ _ e = cc e

module _ {S : Type 0} (stores : Stores S) (g : CodeRun) where
  -- once a fault stands it stays, and each event is Laid
  stands : (s : System S) (q : ℕ) (t : Turn (Memory S)) → s.faulted ≡ true
      → ((system_after_turn stores g q t s).faulted ≡ true)
      × (event_of g.limits s t ≡ event.Laid)
  stands s q t e = go s.faulted e
    where
      go : (b : Bool) → b ≡ true → ((if b then lays stores g q (config_of t) s else
          apply_unless_fault stores g (fault_of g.limits s t) q t s).faulted ≡ true)
          × ((if b then event.Laid else event_or (fault_of g.limits s t) t) ≡ event.Laid)
      go true w = (e, refl)
      go false w = absurd (cc w)

  -- a fault stands after its event
  begins : (s : System S) (q : ℕ) (t : Turn (Memory S)) (f : Fault) → event_of g.limits s t ≡ event.Fault f
      → (system_after_turn stores g q t s).faulted ≡ true
  begins s q t f e = go s.faulted e
    where
      by_fault : (o : Option Fault) (x : Turn (Memory S)) → event_or o x ≡ event.Fault f
          → (apply_unless_fault stores g o q x s).faulted ≡ true
      by_fault (Some d) x w = refl
      by_fault None (Faulted d c) w = refl
      by_fault None (Stopped stop c) w = absurd (stop_not_fault stop f w)

      go : (b : Bool) → (if b then event.Laid else event_or (fault_of g.limits s t) t) ≡ event.Fault f
          → (if b then lays stores g q (config_of t) s else apply_unless_fault stores g (fault_of g.limits s t) q t
          s).faulted
          ≡ true
      go true w = absurd (cc w)
      go false w = by_fault (fault_of g.limits s t) t w

  pub laid_after : (s t : System S) (es : List Entry) → s.faulted ≡ true → EntriesLead stores g s es t
      → (i : ℕ) (e : Entry)
      → slice_get es i ≡ Some e → e.event ≡ event.Laid
  laid_after s t [] h l i e w = absurd cc
  laid_after s t (x ∷ es) h (_, (_, _, turn, _, event_is, _), _) zero e w =
      let is : x ≡ e = cc in
      ap (λ (y : Entry). y.event) (sym is) ∙ sym event_is ∙ (stands s x.process turn h).1
  laid_after s t (x ∷ es) h (u, (_, _, turn, _, _, leads), more) (suc i) e w = laid_after u t es
      (ap (λ (y : System S). y.faulted) leads ∙ (stands s x.process turn h).0) more i e w

  pub one_fault : (s t : System S) (es : List Entry) → EntriesLead stores g s es t → (i j : ℕ) (d e : Entry)
      → slice_get es i ≡ Some d → slice_get es j ≡ Some e → IsFaulty d.event → IsFaulty e.event → i ≡ j
  one_fault s t [] l i j d e w x f h = absurd cc
  one_fault s t (y ∷ es) l zero zero d e w x f h = refl
  one_fault s t (y ∷ es) (u, (_, _, turn, _, event_is, leads), more) zero (suc j) d e w x f h =
      let is : y ≡ d = cc in
      let stood = begins s y.process turn f.0 (event_is ∙ ap (λ (z : Entry). z.event) is ∙ f.1) in
      let laid = laid_after u t es (ap (λ (z : System S). z.faulted) leads ∙ stood) more j e x in
      let w1 = h.1 in absurd (cc (laid, w1))
  one_fault s t (y ∷ es) (u, (_, _, turn, _, event_is, leads), more) (suc i) zero d e w x f h =
      let is : y ≡ e = cc in
      let stood = begins s y.process turn h.0 (event_is ∙ ap (λ (z : Entry). z.event) is ∙ h.1) in
      let laid = laid_after u t es (ap (λ (z : System S). z.faulted) leads ∙ stood) more i d w in
      let w1 = f.1 in absurd (cc (laid, w1))
  one_fault s t (y ∷ es) l (suc i) (suc j) d e w x f h = ap suc (one_fault l.0 t es l.2 i j d e w x f h)
