-- Rule V7 at a call: what one fact shows.
use Rattle.std.proofs.Common.{◌≡◌, inl, inr, ⊎_elim, sym, ap, subst, ◌∙◌, ℕ, ◌-◌, List, [], ◌∷◌, Some, true, length}
use Rattle.std.proofs.Common.{◌==◌, eqb-true}
use Rattle.std.specs.List.{list_any}
use Rattle.std.proofs.lemmas.Bool.{or_cases}
use Rattle.std.proofs.lemmas.Option.{none-some, same_Some}
use Rattle.sp_base.proofs.Facts.{not_true_and_false}
use Rattle.sp_tree.specs.Interference.{IsMember}
use Rattle.sp_code.specs.declared.code.Layout.{Layout}
use Rattle.sp_code.specs.declared.code.Parts.{Parts}
use Rattle.sp_code.specs.Machine.{layout_of}
use Rattle.sp_verify_rules.specs.Areas.{Body, entry_of_layout, instr_at}
use Rattle.sp_verify_rules.specs.Effects.{Does, HasEffect, IsEffect, Loaded, Stored}
use Rattle.sp_verify_rules.specs.NameRules.{BreaksV1}
use Rattle.sp_verify_rules.specs.Verdict.{BreaksV7}
use Rattle.sp_verify_areas.specs.declared.owners.Owner.{Owner}
use Rattle.sp_verify_areas.specs.Owners.{AreOwners}
use Rattle.sp_verify_shapes.specs.declared.shapes.Shapes.{Shapes}
use Rattle.sp_verify_shapes.specs.Repeats.{called_block}
use Rattle.sp_verify_shapes.specs.ReachRules.{reached_at}
use Rattle.sp_verify_shapes.specs.Shapes.{AreShapes}
use Rattle.sp_verify_shapes.specs.Stacks.{list_of}
use Rattle.sp_verify_shapes.proofs.CallRepeats.{called_is}
use Rattle.sp_verify_shapes.proofs.ReachLaws.{stands}
use Rattle.sp_verify_effects.specs.declared.facts.Effect.{Effect}
use Rattle.sp_verify_effects.specs.declared.facts.Effect.TheVariants as effect
use Rattle.sp_verify_effects.specs.declared.facts.Fact.{Fact}
use Rattle.sp_verify_effects.specs.Calls.{Meets}
use Rattle.sp_verify_effects.specs.FactClosure.{IsDone, IsEffectOf}
use Rattle.sp_verify_effects.specs.Facts.{touched}
use Rattle.sp_verify_effects.specs.Variables.{AreOwn, owns}
use Rattle.sp_verify_effects.proofs.BlockVariables.{in_own}
use Rattle.sp_verify_effects.proofs.CallTests.{at_is, member_at}
use Rattle.sp_verify_effects.proofs.Exact.{one_area}

-- a variable that is found in a list is a member
pub among : (x : ℕ) (xs : List ℕ) → list_any (λ y. y == x) xs ≡ true → IsMember x xs
among x [] e = absurd (cc e)
among x (y ∷ ys) e = ⊎_elim (λ h. inl (sym (eqb-true y x h))) (λ h. inr (among x ys h))
    (or_cases (y == x) (list_any (λ z. z == x) ys) e)

module _ (c : Parts) (kept : (p : ℕ) → BreaksV1 c p → ⊥) (os : List Owner) (owners : AreOwners c os) (s : Shapes)
    (shapes : AreShapes c s) (ks : List (ℕ × ℕ)) (own : AreOwn c ks) where
  does : (b x : ℕ) (d : Effect) → touched d ≡ Some x → IsEffectOf c (Body b) d → HasEffect c (Does c) (Body b) x
  does b x (effect.Stores y) e h = inl (subst (IsEffect c (Does c) Stored (Body b)) (same_Some y x e) h)
  does b x (effect.Loads y) e h = inr (subst (IsEffect c (Does c) Loaded (Body b)) (same_Some y x e) h)
  does b x effect.Stops e h = absurd (none-some x e)

  -- a call clashes if its block does this to a variable that it passes
  pub fact_clashes : (p n b : ℕ) (l : Layout) (f : Fact) → reached_at s p ≡ Some n
      → called_block (instr_at c p) ≡ Some b → layout_of c.layouts b ≡ Some l → IsDone c f
      → Meets ks l (list_of s.stacks n) f → BreaksV7 c p
  fact_clashes p n b l f comes calls is (a, ia, at, effects) m =
      let (area, (is_area, reaches)) = shapes.come p n (stands s p n comes) in
      let call = called_is (instr_at c p) b calls in
      let ss = list_of s.stacks n in
      let x = m.variable in
      let (i, below, placed) = member_at l ss (length l.formals) x m.among in
      let same = one_area c kept os owners a (Body b) ia (l, is)
      (sym at ∙ (sym m.begins ∙ sym (ap entry_of_layout is))) in
      inl (
        area,
        b,
        call.0,
        ss,
        l,
        is_area,
        record { reached = reaches; call = call.1; layout = is },
        inr (
          length l.formals - 1 - i,
          x,
          at_is l ss i x below placed,
          (
            does b x f.effect m.does (subst (λ z. IsEffectOf c z f.effect) same effects),
            λ k. not_true_and_false (owns ks l.entry x) (in_own c kept ks own b l is x k) m.outside,
          ),
        ),
      )
