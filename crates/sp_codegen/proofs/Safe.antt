-- A turn that ends as the meaning's does never lacks what it needs.
use Rattle.std.proofs.Common.{◌≡◌, ℕ, zero, suc, List, sym, ap, ◌∙◌, subst}
use Rattle.sp_meaning.specs.LocalWork.{WorkOutcome, Computed, EndsInFault, IllFormed, OutOfFuel}
use Rattle.sp_meaning.specs.Actions.{Stepped, Ticked, Opened, Forked, Offered, Ended}
use Rattle.sp_meaning.specs.Run.{Store}
use Rattle.sp_meaning.specs.Turn as source
use Rattle.sp_code.specs.declared.code.Parts.{Parts as Code}
use Rattle.sp_code.specs.Machine.{Entry, Ops, Config, At, StepResult, Goes, Stops, Fails, Stuck, next_step}
use Rattle.sp_code.specs.Turns.{RunsIn, RunsTo, IsSafe}
use Rattle.sp_codegen.specs.FramePairs.{FramePair}
use Rattle.sp_codegen.specs.Executions.{Execution}
pub use Rattle.sp_codegen.specs.TurnAgrees.{AtEnd}
use Rattle.sp_codegen.proofs.Turn.{Turned}

module _ {M : Type 0} (ops : Ops M) (code : Code) where
  -- the last instruction of a turn
  abbrev pub IsLast : StepResult M → Type 0
  IsLast (Goes c) = ⊥
  IsLast (Stops s c) = Unit {0}
  IsLast (Fails f) = Unit {0}
  IsLast Stuck = ⊥

  one_config : (c d : Config M) → Goes c ≡ Goes d → c ≡ d
  one_config c d e = cc e

  no_last : (c d : Config M) → next_step ops code c ≡ Goes d → IsLast (next_step ops code c) → ⊥
  no_last c d e h = subst IsLast e h

  safe_in : (n k : ℕ) (c e d : Config M) → RunsIn ops code n c e → IsLast (next_step ops code e) → RunsIn ops code k c d
      → next_step ops code d ≡ Stuck → ⊥
  safe_in zero zero c e d h l k x = subst IsLast (ap (next_step ops code) (sym h ∙ k) ∙ x) l
  safe_in zero (suc k) c e d h l g x = no_last c g.0 g.1 (subst (λ z. IsLast (next_step ops code z)) (sym h) l)
  safe_in (suc n) zero c e d h l g x = let bad : Goes h.0 ≡ Stuck = sym h.1 ∙ ap (next_step ops code) g ∙ x in
      absurd (cc bad)
  safe_in (suc n) (suc k) c e d h l g x =
      let same = one_config g.0 h.0 (sym g.1 ∙ h.1) in
      safe_in n k h.0 e d h.2 l (subst (λ z. RunsIn ops code k z d) same g.2) x

  -- from c a last instruction is reached
  abbrev pub Finishes : Config M → Type 0
  Finishes c = (e : Config M) × RunsTo ops code c e × IsLast (next_step ops code e)

  pub finishes_safe : (c : Config M) → Finishes c → IsSafe ops code c
  finishes_safe c f b d k x = safe_in f.1.steps k.steps c f.0 d f.1.proof f.2 k.proof x

module _ {M : Type 0} (ex : Execution M) where
  open ex use {code, operations as ops}

  last_by : (c : Config M) (x : StepResult M) → next_step ops code c ≡ x → IsLast ops code x
      → IsLast ops code (next_step ops code c)
  last_by c x e l = subst (λ z. IsLast ops code z) (sym e) l

  pub turn_finishes : (c : Config M) (end : ℕ) (base : List Entry) (below : List FramePair) (r : WorkOutcome source.Stop
      × Store)
      → Turned ex c end base below r → AtEnd r → Finishes ops code c
  turn_finishes c end base below (Computed (source.Paused todo) o, s) (last, comes, k) h =
      (last, comes, last_by _ _ k.stops tt)
  turn_finishes c end base below (Computed (source.Stops (Stepped todo)) o, s) q h = absurd h
  turn_finishes c end base below (Computed (source.Stops (Ticked todo)) o, s) q h = absurd h
  turn_finishes c end base below (Computed (source.Stops (Opened todo)) o, s) (last, comes, k) h =
      (last, comes, last_by _ _ k.stops tt)
  turn_finishes c end base below (Computed (source.Stops (Forked bs todo)) o, s) (last, comes, k) h =
      (last, comes, last_by _ _ k.stops tt)
  turn_finishes c end base below (Computed (source.Stops (Offered ch x payload todo)) o, s) (last, comes, k) h =
      (last, comes, last_by _ _ k.stops tt)
  turn_finishes c end base below (Computed (source.Stops Ended) o, s) (At pc st n, comes, k) h =
      (At pc st n, comes, last_by (At pc st n) _ k.stops tt)
  turn_finishes c end base below (EndsInFault f, s) q h = (q.configuration, q.comes, last_by _ _ q.fails tt)
  turn_finishes c end base below (IllFormed, s) q h = absurd h
  turn_finishes c end base below (OutOfFuel, s) q h = absurd h
