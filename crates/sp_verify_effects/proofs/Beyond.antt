-- A breach of V6 that one fact shows.
use Rattle.std.proofs.Common.{◌≡◌, inl, inr, refl, ap, sym, ◌∙◌, subst, ℕ, List, true}
use Rattle.sp_tree.specs.Interference.{IsMember}
use Rattle.sp_code.specs.declared.code.ChildTable.{ChildTable}
use Rattle.sp_code.specs.declared.code.Parts.{Parts}
use Rattle.sp_verify_rules.specs.Areas.{Area, Child, entry_of_child}
use Rattle.sp_verify_rules.specs.Effects.{Does, IsEffect, Loaded, Stored}
use Rattle.sp_verify_rules.specs.Forks as fork
use Rattle.sp_verify_rules.specs.NameRules.{BreaksV1, IsChild}
use Rattle.sp_verify_rules.specs.Verdict.{BreaksV6, HasStop}
use Rattle.sp_verify_areas.specs.declared.owners.Owner.{Owner}
use Rattle.sp_verify_areas.specs.Owners.{AreOwners}
use Rattle.sp_verify_effects.specs.declared.facts.Effect.{Effect}
use Rattle.sp_verify_effects.specs.declared.facts.Effect.TheVariants as effect
use Rattle.sp_verify_effects.specs.declared.facts.Fact.{Fact}
use Rattle.sp_verify_effects.specs.ChildEffects.{FailsAlone, fails_alone, loaded_of, stored_of}
use Rattle.sp_verify_effects.specs.FactClosure.{IsDone, IsEffectOf}
use Rattle.sp_verify_effects.proofs.Alone.{alone_is}
use Rattle.sp_verify_effects.proofs.Children.{child_area}
use Rattle.sp_verify_effects.proofs.Exact.{one_area}

module _ (c : Parts) (a : Area) where
  is_stored : (d : Effect) → IsEffectOf c a d → (x : ℕ) → IsMember x (stored_of d) → IsEffect c (Does c) Stored a x
  is_stored (effect.Stores y) h x (inl e) = subst (IsEffect c (Does c) Stored a) (sym e) h
  is_stored (effect.Stores y) h x (inr m) = absurd m
  is_stored (effect.Loads y) h x m = absurd m
  is_stored effect.Stops h x m = absurd m

  is_loaded : (d : Effect) → IsEffectOf c a d → (x : ℕ) → IsMember x (loaded_of d) → IsEffect c (Does c) Loaded a x
  is_loaded (effect.Loads y) h x (inl e) = subst (IsEffect c (Does c) Loaded a) (sym e) h
  is_loaded (effect.Loads y) h x (inr m) = absurd m
  is_loaded (effect.Stores y) h x m = absurd m
  is_loaded effect.Stops h x m = absurd m

module _ (c : Parts) (kept : (p : ℕ) → BreaksV1 c p → ⊥) (os : List Owner) (owners : AreOwners c os) where
  -- a child that does something for which it fails
  pub child_breaks : (t k : ℕ) (ch : ChildTable) → IsChild c t k ch → (f : Fact) → IsDone c f → ch.entry ≡ f.area
      → fails_alone (stored_of f.effect) (loaded_of f.effect) ch ≡ true → BreaksV6 c ch.entry
  child_breaks t k ch is f (a, ia, at, does) begins fails =
      let n = child_area c kept os owners t k ch is in
      let there : Area = Child n.around n.position k in
      let same : a ≡ there = one_area c kept os owners a there ia n.there
      (sym at ∙ (sym begins ∙ sym (ap entry_of_child n.child))) in (
        n.around,
        n.position,
        k,
        ch,
        n.there,
        n.child,
        refl,
        rule n.around n.position (subst (λ (z : Area). IsEffectOf c z f.effect) same does)
            (alone_is (stored_of f.effect) (loaded_of f.effect) ch fails),
      )
    where
      rule : (b : Area) (q : ℕ) → IsEffectOf c (Child b q k) f.effect
          → FailsAlone (stored_of f.effect) (loaded_of f.effect) ch → fork.BreaksV6 c (Does c) (HasStop c) b q k ch
      rule b q h (inl (x, i, m)) = inl (x, is_stored c (Child b q k) f.effect h x i, m)
      rule b q h (inr (inl (x, i, s, m))) = inr (inl (x, is_loaded c (Child b q k) f.effect h x i, s, m))
      rule b q h (inr (inr w)) = inr (inr (inl w))
