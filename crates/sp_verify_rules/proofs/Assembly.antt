-- Code that breaks no rule is sound.
use Rattle.std.proofs.Common.{◌≡◌, inl, ℕ, List, [], ◌∷◌, Some, zero, suc, refl, sym, subst, get_or}
use Rattle.std.specs.Prelude.{All, slice_get}
use Rattle.std.proofs.lemmas.Option.{same_Some, slice_get_within}
use Rattle.sp_code.specs.declared.code.Layout.{Layout}
use Rattle.sp_code.specs.declared.code.Parts.{Parts}
use Rattle.sp_code.specs.Machine.{layout_of}
use Rattle.sp_code.specs.Sizes.{IsSize, HasSmallSizes, HasChild, KeepsSizes}
use Rattle.sp_code.specs.Sound.{IsSound, run_of}
use Rattle.sp_verify_rules.specs.Activations.{AnswersWithoutStop}
use Rattle.sp_verify_rules.specs.Effects.{Does}
use Rattle.sp_verify_rules.specs.Forks.{KeepsEffects}
use Rattle.sp_verify_rules.specs.Forks as fork
use Rattle.sp_verify_rules.specs.KeepsCodeRules.{KeepsCodeRules, HaveChildren, FitsTypes}
use Rattle.sp_verify_rules.specs.NameRules.{Unknown, TableUnknown}
use Rattle.sp_verify_rules.specs.Verdict.{V1, V2, V3, V4, V5, V6, V7, V8, V9, HasStop, IsVerified}
use Rattle.sp_verify_rules.proofs.Premises.{keeps, distinct, formals_have_room}
use Rattle.sp_verify_rules.proofs.FrameScopes.{found_layout}
use Rattle.sp_verify_rules.proofs.Unbroken.{keeps_effects}
use Rattle.sp_verify_rules.proofs.SafeRuns as verified

-- what holds of all holds of each
module _ {X : Type 0} where
  there : (xs : List X) (i : ℕ) (x : X) → slice_get xs i ≡ Some x → get_or xs i x ≡ x
  there [] i x e = absurd (cc e)
  there (y ∷ xs) zero x e = same_Some y x e
  there (y ∷ xs) (suc i) x e = there xs i x e

  each : (P : X → Type 0) (xs : List X) → All P xs → (i : ℕ) (x : X) → slice_get xs i ≡ Some x → P x
  each P xs h i x e = subst P (there xs i x e) (h i x (slice_get_within xs i x e))

pub have_children : (c : Parts) → KeepsSizes c → HaveChildren c
have_children c small t tb e = each HasChild c.forks small.children t tb e

pub fits_types : (c : Parts) → KeepsSizes c → FitsTypes c
fits_types c small b l at j n e = each IsSize l.sizes
    (let (_, (i, is)) = found_layout c.layouts b l at in each HasSmallSizes c.layouts small.sizes i l is) j n e

module _ (c : Parts) (small : KeepsSizes c) (v : IsVerified c) where
  children : HaveChildren c
  children = have_children c small

  types : FitsTypes c
  types = fits_types c small

  pub k : KeepsCodeRules c
  k = keeps c children types (v V1) (v V2) (v V3) (v V4) (v V5)

  pub e : KeepsEffects c (Does c)
  e = keeps_effects c (Does c) (HasStop c) (λ a p j t i f br. v V6 t.entry (a, p, j, t, i, f, refl, br))
      (λ a p b up ss l i call br. v V7 p (inl (a, b, up, ss, l, i, call, br)))

  pub known : (p : ℕ) → Unknown c p → ⊥
  known p u = v V1 p (TableUnknown u)

  -- verified code is sound
  pub verified_sound : IsSound c
  verified_sound = record {
    blocks = distinct c children types (v V1) (v V2) (v V3) (v V4) (v V5);
    formals = formals_have_room c children types (v V1) (v V2) (v V3) (v V4) (v V5);
    safe = λ input lim within es s is. verified.safe_along (run_of c input lim) k e known within.depth (v V9) es s is;
  }

  -- and a process stops at nothing but a fault or a pause while a block that answers is being called
  pub verified_without_stop : AnswersWithoutStop c
  verified_without_stop input lim within es s is q d at p st m way stops = verified.without_stop_along
      (run_of c input lim) k e known within.depth (v V9) eight es s is q d at p st m way stops
    where
      eight : (f : ℕ) (l : Layout) → layout_of c.layouts f ≡ Some l → fork.BreaksV8 c (Does c) (HasStop c) l f → ⊥
      eight f l lay br = let w = found_layout c.layouts f l lay in v V8 l.entry
          (l, w.1, refl, subst (λ z. fork.BreaksV8 c (Does c) (HasStop c) l z) (sym w.0) br)
