-- Laws of effects, for who computes them: a set that is closed under what code does, starts and calls has all effects;
-- and each step of such a set is an effect. So the least closed set, which a verifier finds by going on until nothing
-- is new, has exactly them.
use Rattle.std.proofs.Common.{inl, inr, ℕ, List, [], ◌∷◌, subst, refl}
use Rattle.sp_code.specs.declared.code.Layout.{Layout}
use Rattle.sp_code.specs.declared.code.ChildTable.{ChildTable}
use Rattle.sp_code.specs.declared.code.Parts.{Parts}
use Rattle.sp_verify_rules.specs.Areas.{Area, Body, Child}
use Rattle.sp_verify_rules.specs.Effects.{EffectKind, CountsAsEffect, Becomes, IsStarted, IsCalled, EffectBy, IsEffect}
use Rattle.sp_verify_rules.specs.Effects.{StopsBy}
use Rattle.sp_verify_rules.specs.Shapes.{Shape}

module _ (c : Parts) (Does : EffectKind → Area → ℕ → Type 0) where
  -- what an area does itself is an effect of it
  pub does_effect : (u : EffectKind) (a : Area) (x : ℕ) → Does u a x → IsEffect c Does u a x
  does_effect u a x d = record { areas = []; proof = d }

  -- an effect of a child is one of the area that starts it, its index aside
  pub child_effect : (u : EffectKind) (a : Area) (p k x : ℕ) (t : ChildTable) → IsStarted c a p k t
      → CountsAsEffect u t.index x
      → IsEffect c Does u (Child a p k) x → IsEffect c Does u a x
  child_effect u a p k x t s o e = record { areas = Child a p k ∷ e.areas; proof = inl (p, k, t, refl, s, o, e.proof) }

  -- an effect of a called block is one of the area that calls it, as what the variable is there
  pub called_effect : (u : EffectKind) (a : Area) (p f up x y : ℕ) (ss : List Shape) (l : Layout)
      → IsCalled c a p f up ss l
      → Becomes l ss y x → IsEffect c Does u (Body f) y → IsEffect c Does u a x
  called_effect u a p f up x y ss l call b e = record {
    areas = Body f ∷ e.areas;
    proof = inr
        (p, f, up, ss, l, refl, call, (y, e.proof, b));
  }

  -- a closed set has all effects
  module _ (S : EffectKind → Area → ℕ → Type 0) (does : (u : EffectKind) (a : Area) (x : ℕ) → Does u a x → S u a x)
      (child : (u : EffectKind) (a : Area) (p k x : ℕ) (t : ChildTable) → IsStarted c a p k t
      → CountsAsEffect u t.index x
      → S u (Child a p k) x → S u a x)
      (called : (u : EffectKind) (a : Area) (p f up x y : ℕ) (ss : List Shape) (l : Layout) → IsCalled c a p f up ss l
      → Becomes l ss y x → S u (Body f) y → S u a x) where
    within : (bs : List Area) (u : EffectKind) (a : Area) (x : ℕ) → EffectBy c Does bs u a x → S u a x
    within [] u a x d = does u a x d
    within (b ∷ bs) u a x (inl (p, k, t, is_child, started, counts, by_child)) = child u a p k x t started counts
        (subst (λ z. S u z x) is_child (within bs u b x by_child))
    within (b ∷ bs) u a x (inr (p, f, up, ss, l, is_body, call, (y, by_body, becomes))) = called u a p f up x y ss l
        call becomes (subst (λ z. S u z y) is_body (within bs u b y by_body))

    pub effects_within : (u : EffectKind) (a : Area) (x : ℕ) → IsEffect c Does u a x → S u a x
    effects_within u a x e = within e.areas u a x e.proof

  -- and so for stops
  module _ (Stops : Area → Type 0) (S : Area → Type 0) (stops : (a : Area) → Stops a → S a)
      (child : (a : Area) (p k : ℕ) (t : ChildTable) → IsStarted c a p k t → S (Child a p k) → S a)
      (called : (a : Area) (p f up : ℕ) (ss : List Shape) (l : Layout) → IsCalled c a p f up ss l → S (Body f)
      → S a) where
    pub stops_within : (bs : List Area) (a : Area) → StopsBy c Does Stops bs a → S a
    stops_within [] a d = stops a d
    stops_within (b ∷ bs) a (inl (p, k, t, is_child, started, by_child)) = child a p k t started
        (subst S is_child (stops_within bs b by_child))
    stops_within (b ∷ bs) a (inr (p, f, up, ss, l, is_body, call, by_body)) = called a p f up ss l call
        (subst S is_body (stops_within bs b by_body))
