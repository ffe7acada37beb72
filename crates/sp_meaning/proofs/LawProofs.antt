-- The laws, as the contracts of `laws.rt` state them.
use Rattle.std.proofs.Common.{◌≡◌, ◌≢◌, inl, inr, [], ◌++◌, Option, Some, None, refl, sym, ap, ◌∙◌, subst, append-nil}
use Rattle.std.proofs.lemmas.Option.{same_Some}
use Rattle.sp_base.specs.declared.fault.Fault.{Fault}
use Rattle.sp_meaning.specs.Model.{Name, Moves, Opens, Forks, Offering, EndsProcess, MeetsFault}
use Rattle.sp_meaning.specs.Steps.{ActOf, ConditionOf, own_part, ActOutcome, Advances, Faulty, act_outcome, limit_fault}
use Rattle.sp_meaning.specs.Steps.{cost, fault_or}
use Rattle.sp_meaning.specs.Steps.{step_outcome, result_of, step_with, IsAlive, Sound}
use Rattle.sp_meaning.specs.Disjoint.{AreParallel, Assigns, WritesIn, receiver}
use Rattle.sp_meaning.specs.LocalWork.{RunInput, Loc, Process}
use Rattle.sp_meaning.specs.SuperPascal.{superpascal}
use Rattle.sp_meaning.specs.Runs.{StateOf, total_limits, next_state}
use Rattle.sp_meaning.specs.Along.{ticks_in}
use Rattle.sp_meaning.specs.Ends.{IsDone, IsIdle}
use Rattle.sp_meaning.specs.Laws.{OwnIs, IsReached, IsBounded, HasNotFallen, IsUnwritten, IsAlone}
use Rattle.sp_meaning.proofs.Instance.{loc_test}
use Rattle.sp_meaning.proofs.Frames.{WritesTo, all_in, store_frame}
use Rattle.sp_meaning.proofs.Status.{working_lives}
use Rattle.sp_meaning.proofs.Parallel.{ancestors_live, parallel}
use Rattle.sp_meaning.proofs.StepLaws.{Result, action_is, working_keeps, risen, own_is, step_well, raised, known, K}

module _ (g : RunInput) where
  pub bounded : (s : StateOf g) → IsReached g s → (q : Name) → IsBounded g s q
  bounded s r q pr run e =
      let keeps = working_keeps (K g) s.condition 0 (s.forks q) q (s.condition q) pr ((known g s r).well q) run in
      subst (Result _ _) e (action_is g pr s.store keeps.light)

  pub named : (s : StateOf g) → IsReached g s → (q : Name) → OwnIs q (s.forks q) (s.condition q)
  named s r q = own_is (K g) 0 (s.forks q) q (s.condition q) ((known g s r).well q)

  pub not_fallen : (s : StateOf g) → IsReached g s → (p : Name) (t : StateOf g) → next_state g s p ≡ Some t → (q : Name)
      → HasNotFallen g s t q
  not_fallen s r p t e q =
      let k = known g s r in
      risen (K g) (ticks_in (s.condition q)) (t.forks q) q (t.condition q)
      (step_well g s k.sound p (raised g s k.well) t e q)

  pub sound : (s : StateOf g) → IsReached g s → Sound s
  sound s r = (known g s r).sound

  pub are_parallel : (s : StateOf g) → IsReached g s → (a b : Name) → IsAlone g s a → IsAlone g s b → a ≢ b
      → AreParallel a b
  are_parallel s r a b one other apart = parallel s a b (known g s r).sound one other apart

  -- where the root has ended, nobody is running
  pub done_idle : (s : StateOf g) → IsReached g s → IsDone g s → IsIdle g s
  done_idle s r done q = by (own_part s q) refl
    where
      by : (o : Option Process) → own_part s q ≡ o → own_part s q ≡ None
      by None e = e
      by (Some own) e =
          let lives : IsAlive (s.condition (q ++ [])) =
          subst (λ z. IsAlive (s.condition z)) (sym (append-nil q))
          (working_lives s.condition q (s.condition q) own e) in
          absurd (subst (λ (c : ConditionOf (superpascal g)). IsAlive c) done
          (ancestors_live s (known g s r).sound q [] lives))

  writes_there : (s : StateOf g) (p : Name) (own : Process) (l : Loc) → WritesTo s ((superpascal g).next own s.store) l
      → (who : Name) × WritesIn {L = superpascal g} s p own who l
  writes_there s p own l h = by ((superpascal g).next own s.store) refl h
    where
      by : (a : ActOf (superpascal g)) → (superpascal g).next own s.store ≡ a → WritesTo s a l → (who : Name)
          × WritesIn {L = superpascal g} s p own who l
      by (Moves o ws) e w = (p, inl (refl, subst (λ (x : ActOf (superpascal g)). Assigns x l) (sym e) w))
      by (Opens o ws) e w = (p, inl (refl, subst (λ (x : ActOf (superpascal g)). Assigns x l) (sym e) w))
      by (Forks o os) e w = absurd w
      by (Offering o) e w =
          (receiver o.payload p w.partner, inr (record { offer = o; offer_is = e; goes = w; who_is = refl }))
      by EndsProcess e w = absurd w
      by (MeetsFault f) e w = absurd w

  -- what nobody writes in a step stays
  pub unwritten : (s : StateOf g) (p : Name) (t : StateOf g) → next_state g s p ≡ Some t → (l : Loc)
      → IsUnwritten g s p l
      → t.store l ≡ s.store l
  unwritten s p t e l free = go (own_part s p) refl
    where
      by : (own : Process) → own_part s p ≡ Some own → (x : Option Fault) (out : ActOutcome (superpascal g))
          → act_outcome s p ((superpascal g).next own s.store) ≡ out → (result_of s p (fault_or x out)).store l
          ≡ s.store l
      by own w None (Advances cs) e = store_frame s p ((superpascal g).next own s.store) loc_test l
          (λ h. let x = writes_there s p own l h in free own w x.0 x.1) cs s
          (all_in s p ((superpascal g).next own s.store) cs e)
      by own w None (Faulty f) e = refl
      by own w (Some f) out e = refl

      go : (o : Option Process) → own_part s p ≡ o → t.store l ≡ s.store l
      go None w = let x : ◌≡◌ {A = Option (StateOf g)} None (Some t) =
          sym (ap (step_with (total_limits g) s p) w) ∙ e in
          absurd (cc x)
      go (Some own) w =
          let a = (superpascal g).next own s.store in
          let is : result_of s p (step_outcome (total_limits g) s p a) ≡ t =
          same_Some (result_of s p (step_outcome (total_limits g) s p a)) t (sym (ap (step_with (total_limits g) s p) w)
          ∙ e) in
          subst (λ (z : StateOf g). z.store l ≡ s.store l) is
          (by own w (limit_fault (total_limits g) s.totals (cost a)) (act_outcome s p a) refl)
