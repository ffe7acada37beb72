-- The ticks of a process once it has acted, and what an act says.
use Rattle.std.proofs.Common.{◌≡◌, ◌≢◌, ℕ, suc, cond, List, [], ◌∷◌, length, Some, None, refl, sym, ap, ◌∙◌, subst}
use Rattle.std.proofs.Common.{arith}
use Rattle.sp_meaning.specs.Model.{Name, same_name, Language, Moves, Opens, Forks, Offering, EndsProcess, MeetsFault}
use Rattle.sp_meaning.specs.Model.{Works, Waits}
use Rattle.sp_meaning.specs.Model.{Joins, Ended, State, Change, Becomes, Forked, AddsTotals, with_change, with_changes}
use Rattle.sp_meaning.specs.Steps.{ActOf, ConditionOf, ActOutcome, Advances, Faulty, birth_changes, act_outcome, Sound}
use Rattle.sp_meaning.specs.LocalWork.{RunInput}
use Rattle.sp_meaning.specs.SuperPascal.{superpascal}
use Rattle.sp_meaning.specs.Runs.{StateOf, total_limits, happening_of}
use Rattle.sp_meaning.specs.Along.{ticks_in, ticks_of}
use Rattle.sp_meaning.proofs.Maps.{itself, differs, at_other}
use Rattle.sp_meaning.proofs.Keys.{name_test}
use Rattle.sp_meaning.proofs.Status.{Makes, IsNotWaiting, waits_stands, working_stands}
use Rattle.sp_meaning.proofs.Meeting.{met, waited, same_changes}
use Rattle.sp_meaning.proofs.RightsInvariant.{puts_condition}

births_condition : (L : Language) (p : Name) (k i : ℕ) (os : List L.Own) (t : State L)
    → (with_changes (birth_changes {L = L} p k i os) t).condition p ≡ t.condition p
births_condition L p k i [] t = refl
births_condition L p k i (o ∷ os) t = births_condition L p k (suc i) os (with_change (Becomes ((k, i) ∷ p) (Works o)) t)
    ∙ at_other name_test t.condition ((k, i) ∷ p) p (Works o) not_below
  where
    not_below : (k, i) ∷ p ≢ p
    not_below e = let h : suc (length p) ≡ length p = ap length e in omega (arith, h)

-- what an act says does not go by its changes
pub said_same : {L : Language} (a : ActOf L) (cs ds : List (Change L))
    → happening_of a (Advances cs) ≡ happening_of a (Advances ds)
said_same (Moves o ws) cs ds = refl
said_same _ _ _ = refl

module _ (g : RunInput) where
  abbrev L : Language
  L = superpascal g

  -- the ticks that an act leaves its process with
  abbrev pub ticks_by : ActOf L → ℕ
  ticks_by (Moves o ws) = o.own.ticks
  ticks_by (Opens o ws) = o.own.ticks
  ticks_by (Forks o os) = o.own.ticks
  ticks_by (Offering o) = o.next.own.ticks
  ticks_by EndsProcess = 0
  ticks_by (MeetsFault f) = 0

  at_self : (m : Name → ConditionOf L) (p : Name) (c : ConditionOf L) → cond (same_name p p) c (m p) ≡ c
  at_self m p c = ap (λ b. cond b c (m p)) (itself name_test p)

  pub ticks_after : (s : StateOf g) (p : Name) (cs : List (Change L)) → Sound s → (one : Makes (total_limits g) s p cs)
      → ticks_of g (with_changes cs s) p ≡ ticks_by (L.next one.own s.store)
  ticks_after s p cs sound one = by (L.next one.own s.store) one.does
    where
      by : (a : ActOf L) → act_outcome s p a ≡ Advances cs → ticks_in ((with_changes cs s).condition p) ≡ ticks_by a
      by (Moves o ws) e =
          let list = same_changes _ cs e in
          ap (λ x. ticks_in ((with_changes x s).condition p)) list
          ∙ ap (λ m. ticks_in (m p)) (puts_condition L ws (with_change (Becomes p (Works o)) s))
          ∙ ap ticks_in (at_self s.condition p (Works o))
      by (Opens o ws) e =
          let list = same_changes _ cs e in
          ap (λ x. ticks_in ((with_changes x s).condition p)) list
          ∙ ap (λ m. ticks_in (m p))
          (puts_condition L ws
          (with_change (AddsTotals (record { processes = 0; channels = 1; entries = 1 }))
          (with_change (Becomes p (Works o)) s)))
          ∙ ap ticks_in (at_self s.condition p (Works o))
      by (Forks o os) e =
          let list = same_changes _ cs e in
          ap (λ x. ticks_in ((with_changes x s).condition p)) list
          ∙ ap ticks_in (births_condition L p (s.forks p) 0 os
          (with_change (AddsTotals (record { processes = length os; channels = 0; entries = 1 }))
          (with_change (Forked p) (with_change (Becomes p (Joins (s.forks p) (length os) o)) s))))
          ∙ ap ticks_in (at_self s.condition p (Joins (s.forks p) (length os) o))
      by (Offering o) e = elim (s.pending o.channel) as (λ m. s.pending o.channel ≡ m
          → ticks_in ((with_changes cs s).condition p) ≡ o.next.own.ticks) [
            | None ↦ λ pe. ap (λ x. ticks_in ((with_changes x s).condition p)) (waited s p o cs pe e)
                ∙ ap ticks_in (at_self s.condition p (Waits o))
            | Some z ↦ λ pe.
                let h = met s p o z cs pe e in
                let apart : z ≢ p = λ is. waits_stands o.channel (s.condition z) (sound.waits o.channel z pe)
                (subst (λ r. IsNotWaiting (s.condition r)) (sym is)
                (working_stands s.condition p (s.condition p) one.own one.works)) in
                ap (λ x. ticks_in ((with_changes x s).condition p)) h.made
                ∙ ap (λ b. ticks_in (cond b (Works h.its.next) (cond (same_name p p) (Works o.next) (s.condition p))))
                (differs name_test z p apart)
                ∙ ap ticks_in (at_self s.condition p (Works o.next))
          ] refl
      by EndsProcess e =
          let list = same_changes _ cs e in
          ap (λ x. ticks_in ((with_changes x s).condition p)) list ∙ ap ticks_in (at_self s.condition p Ended)
      by (MeetsFault f) e = absurd (faulty e)
        where
          faulty : ◌≡◌ {A = ActOutcome L} (Faulty f) (Advances cs) → ⊥
          faulty h = cc
