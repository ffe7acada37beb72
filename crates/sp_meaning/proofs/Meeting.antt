-- An offer that met another's, and one that waits.
use Rattle.std.proofs.Common.{◌≡◌, true, false, cond, ◌==◌, List, Option, Some, None, refl, subst}
use Rattle.sp_base.specs.declared.fault.Fault.TheVariants as fault
use Rattle.sp_meaning.specs.Model.{Name, Language, Offering, Waits, State, Change}
use Rattle.sp_meaning.specs.Steps.{OfferOf, ConditionOf, ActOutcome, Advances, Faulty, message, meeting_changes}
use Rattle.sp_meaning.specs.Steps.{waiting_changes, handover_outcome}
use Rattle.sp_meaning.specs.Steps.{meeting_outcome, offer_outcome, act_outcome}

-- what two advances that are the same change
pub same_changes : {L : Language} (x y : List (Change L)) → ◌≡◌ {A = ActOutcome L} (Advances x) (Advances y) → y ≡ x
same_changes x y h = cc

-- an offer that met another's, without a fault
pub record Met {L : Language} (s : State L) (p : Name) (o : OfferOf L) (z : Name) (cs : List (Change L)) : Type 0 where
  pub its : OfferOf L
  pub waits : s.condition z ≡ Waits its
  pub passes : L.Target × L.Value
  pub message_is : message o.payload its.payload ≡ Some passes
  pub alike : o.kind == its.kind ≡ true
  pub made : cs ≡ meeting_changes s p o z its passes

module _ {L : Language} (s : State L) (p : Name) (o : OfferOf L) (z : Name) (cs : List (Change L)) where
  met_by : (w : OfferOf L) (m : Option (L.Target × L.Value)) → s.condition z ≡ Waits w → message o.payload w.payload ≡ m
      → handover_outcome s p o z w m ≡ Advances cs → Met s p o z cs
  met_by w None c h e = absurd (cc e)
  met_by w (Some m) c h e = elim (o.kind == w.kind) as
      (λ b. o.kind == w.kind ≡ b → cond b (Advances (meeting_changes s p o z w m)) (Faulty fault.F7) ≡ Advances cs
      → Met s p o z cs) [
        | true ↦ λ a f. record { its = w; waits = c; passes = m; message_is = h; alike = a; made = same_changes _ _ f }
        | false ↦ λ a f. absurd (cc f)
      ] refl e

  met_in : (c : ConditionOf L) → s.condition z ≡ c → meeting_outcome s p o z c ≡ Advances cs → Met s p o z cs
  met_in (Waits w) c e = met_by w (message o.payload w.payload) c refl e
  met_in _ _ e = absurd (cc e)

  pub met : s.pending o.channel ≡ Some z → act_outcome s p (Offering o) ≡ Advances cs → Met s p o z cs
  met pe e = met_in (s.condition z) refl (subst (λ m. offer_outcome s p o m ≡ Advances cs) pe e)

pub waited : {L : Language} (s : State L) (p : Name) (o : OfferOf L) (cs : List (Change L)) → s.pending o.channel ≡ None
    → act_outcome s p (Offering o) ≡ Advances cs → cs ≡ waiting_changes s p o
waited {L} s p o cs pe e = let h : ◌≡◌ {A = ActOutcome L} (Advances (waiting_changes s p o)) (Advances cs) =
    subst (λ m. offer_outcome s p o m ≡ Advances cs) pe e in cc (h)
