-- What the verifier knows of the rules before the one that it asks: each of them is kept.
use Rattle.std.proofs.Common.{◌≡◌, subst, ℕ, ◌<◌, Some, arith}
use Rattle.sp_code.specs.declared.code.Parts.{Parts}
use Rattle.sp_verify_rules.specs.NameRules.{BreaksV1}
use Rattle.sp_verify_rules.specs.Rules.{BreaksV2, BreaksV3, BreaksV4, BreaksV5}
use Rattle.sp_verify_rules.specs.Verdict.{Rule, V1, V2, V3, V4, V5, V6, V7, V8, V9, number, BreaksRuleAt, IsRejected}
use Rattle.sp_verify_areas.specs.LeastPlaces.{IsLeast}
use Rattle.sp_verify_shapes.specs.Shapes.{AreShapes, IsOutcome}
use Rattle.sp_verify_shapes.specs.declared.shapes.Outcome.{Outcome}
use Rattle.sp_verify_shapes.specs.declared.shapes.Outcome.TheVariants as outcome
use Rattle.sp_verify_shapes.specs.declared.shapes.Shapes.{Shapes}
use Rattle.sp_codefile.specs.VerifyAnswers.{KeepsBefore}

-- each rule before is kept
pub no_v1 : (c : Parts) (n : ℕ) → 1 < n → KeepsBefore c n → (p : ℕ) → BreaksV1 c p → ⊥
no_v1 c n l kept p b = kept V1 p l b

pub no_v2 : (c : Parts) (n : ℕ) → 2 < n → KeepsBefore c n → (p : ℕ) → BreaksV2 c p → ⊥
no_v2 c n l kept p b = kept V2 p l b

pub no_v3 : (c : Parts) (n : ℕ) → 3 < n → KeepsBefore c n → (p : ℕ) → BreaksV3 c p → ⊥
no_v3 c n l kept p b = kept V3 p l b

pub no_v4 : (c : Parts) (n : ℕ) → 4 < n → KeepsBefore c n → (p : ℕ) → BreaksV4 c p → ⊥
no_v4 c n l kept p b = kept V4 p l b

pub no_v5 : (c : Parts) (n : ℕ) → 5 < n → KeepsBefore c n → (p : ℕ) → BreaksV5 c p → ⊥
no_v5 c n l kept p b = kept V5 p l b

module _ (c : Parts) (kept : KeepsBefore c 2) where
  pub refused : (o : Outcome) (p : ℕ) → o ≡ outcome.Broken p → IsOutcome c o → IsRejected c V2 p
  refused o p e h = from (subst (IsOutcome c) e h)
    where
      from : IsLeast (BreaksV2 c) (Some p) → IsRejected c V2 p
      from k = record { broken = k.0; first = λ w q l b. kept w q l b; least = λ q l b. k.1 q l b }

  pub shaped : (o : Outcome) (s : Shapes) → o ≡ outcome.Kept s → IsOutcome c o → KeepsBefore c 3 × AreShapes c s
  shaped o s e h = from (subst (IsOutcome c) e h)
    where
      from : ((p : ℕ) → BreaksV2 c p → ⊥) × AreShapes c s → KeepsBefore c 3 × AreShapes c s
      from k = (all, k.1)
        where
          all : (v : Rule) (p : ℕ) → number v < 3 → BreaksRuleAt c v p → ⊥
          all V1 p l b = kept V1 p (omega arith) b
          all V2 p l b = k.0 p b
          all V3 p l b = omega (arith, l)
          all V4 p l b = omega (arith, l)
          all V5 p l b = omega (arith, l)
          all V6 p l b = omega (arith, l)
          all V7 p l b = omega (arith, l)
          all V8 p l b = omega (arith, l)
          all V9 p l b = omega (arith, l)
