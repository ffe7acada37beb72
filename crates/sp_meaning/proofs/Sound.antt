-- Every step keeps what is known of the state, a faulting one too.
use Rattle.std.proofs.Common.{◌≡◌, Option, Some, None, refl, sym, ap, ◌∙◌, subst}
use Rattle.std.proofs.lemmas.Option.{same_Some}
use Rattle.sp_base.specs.declared.fault.Fault.{Fault}
use Rattle.sp_meaning.specs.Model.{Name, Totals, Language, State, Faults, with_change}
use Rattle.sp_meaning.specs.Steps.{own_part, ActOutcome, Advances, Faulty, act_outcome, limit_fault, cost, fault_or}
use Rattle.sp_meaning.specs.Steps.{step_outcome, result_of}
use Rattle.sp_meaning.specs.Steps.{step, step_with, Sound}
use Rattle.sp_meaning.proofs.StepInvariants.{sound_kept}

module _ {L : Language} (limits : Totals) (s : State L) (p : Name) where
  faulted_sound : (f : Fault) → Sound s → Sound (with_change {L = L} (Faults p f) s)
  faulted_sound f sound = record { waits = sound.waits; unborn = sound.unborn; joined = sound.joined }

  acted_sound : Sound s → (own : L.Own) → own_part s p ≡ Some own
      → limit_fault limits s.totals (cost (L.next own s.store)) ≡ None → (out : ActOutcome L)
      → act_outcome s p (L.next own s.store) ≡ out → Sound (result_of s p out)
  acted_sound sound own w within (Advances cs) e =
      sound_kept s p cs sound (record { own = own; works = w; within = within; does = e })
  acted_sound sound own w within (Faulty f) e = faulted_sound f sound

  outcome_sound : Sound s → (own : L.Own) → own_part s p ≡ Some own → (x : Option Fault)
      → limit_fault limits s.totals (cost (L.next own s.store)) ≡ x
      → Sound (result_of s p (fault_or x (act_outcome s p (L.next own s.store))))
  outcome_sound sound own w None e = acted_sound sound own w e (act_outcome s p (L.next own s.store)) refl
  outcome_sound sound own w (Some f) e = faulted_sound f sound

  pub step_sound : (m : State L) → Sound s → step limits s p ≡ Some m → Sound m
  step_sound m sound e = go (own_part s p) refl
    where
      go : (o : Option L.Own) → own_part s p ≡ o → Sound m
      go None w = let x : ◌≡◌ {A = Option (State L)} None (Some m) = sym (ap (step_with limits s p) w) ∙ e in
          absurd (cc x)
      go (Some own) w =
          let is = same_Some (result_of s p (step_outcome limits s p (L.next own s.store))) m
          (sym (ap (step_with limits s p) w) ∙ e) in
          subst (λ (z : State L). Sound z) is
          (outcome_sound sound own w (limit_fault limits s.totals (cost (L.next own s.store))) refl)
