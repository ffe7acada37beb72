-- A block is called inside itself where it is just inside the level of the call.
use Rattle.std.proofs.Common.{◌≡◌, ◌⊎◌, inl, inr, ⊎_elim, refl, sym, ap, subst, ◌∙◌, ℕ, zero, suc, ◌+◌, ◌-◌, ◌<◌, ◌==◌}
use Rattle.std.proofs.Common.{List, Option, Some, None, Bool, true, false, ◌||◌, length, arith, eqb-true}
use Rattle.std.specs.Prelude.{slice_get, nat_lt}
use Rattle.std.specs.BTreeMap.{BTreeMap}
use Rattle.std.proofs.lemmas.Bool.{eq-eqb, and_from, and_parts, or_cases, or_left, or_right}
use Rattle.std.proofs.lemmas.List.{length-drop}
use Rattle.std.proofs.lemmas.Option.{slice_get_within, none-some, same_Some}
use Rattle.sp_base.proofs.Facts.{less_same_or_more}
use Rattle.sp_code.specs.declared.code.Layout.{Layout}
use Rattle.sp_code.specs.declared.code.Parts.{Parts}
use Rattle.sp_code.specs.Memory.{Home, OfBlock, OfIndex}
use Rattle.sp_verify_rules.specs.Areas.{Area, Body, Child, block_of, on_option, homes, index_of_child, child_at}
use Rattle.sp_verify_rules.specs.Areas.{instr_at}
use Rattle.sp_verify_rules.specs.Areas.{with_home}
use Rattle.sp_verify_rules.specs.Effects.{IsCalled}
use Rattle.sp_verify_rules.specs.KeepsCodeRules.{KeepsCodeRules}
use Rattle.sp_verify_rules.specs.NameRules.{LiesIn, level_fits, is_block}
use Rattle.sp_verify_rules.specs.Reach.{IsArea}
use Rattle.sp_verify_rules.specs.Shapes.{Shape}
use Rattle.sp_verify_rules.specs.Verdict.{Inside}
use Rattle.sp_verify_rules.proofs.FrameScopes.{area_drop, homes_step, inner, is_block_of}
use Rattle.sp_verify_rules.proofs.ShapePaths.{passes}
use Rattle.sp_verify_areas.specs.Alone.{Marks, flag_at}
use Rattle.sp_verify_areas.specs.Only.{LiesOnlyIn}
use Rattle.sp_verify_shapes.specs.declared.shapes.Shapes.{Shapes}
use Rattle.sp_verify_shapes.specs.Shapes.{AreShapes}
use Rattle.sp_verify_shapes.specs.ReachRules.{reached_at}
use Rattle.sp_verify_shapes.specs.Stacks.{list_of}
use Rattle.sp_verify_shapes.proofs.ReachLaws.{stands}
use Rattle.sp_verify_effects.specs.Turns.{AreInside, CallsInside, SomeCalls, inside_of, is_inside}

-- ---- where a block stands among those around code

block_is : (b : ℕ) (h : Option Home) → is_block (Some b) h ≡ true → h ≡ Some (OfBlock b)
block_is b None e = absurd (cc e)
block_is b (Some (OfBlock d)) e = ap (λ z. Some (OfBlock z)) (sym (eqb-true b d e))
block_is b (Some (OfIndex x)) e = absurd (cc e)

is_block_here : (b : ℕ) (h : Option Home) → h ≡ Some (OfBlock b) → is_block (Some b) h ≡ true
is_block_here b h e = ap (is_block (Some b)) e ∙ eq-eqb b b refl

module _ (c : Parts) where
  -- a block around code is around the block whose code that is
  to_block : (a : Area) (n b : ℕ) → slice_get (homes c a) n ≡ Some (OfBlock b) → Inside c (block_of c a) b
  to_block (Body d) n b e = (n, e)
  to_block (Child a p k) n b e = go (index_of_child (child_at c p k)) n e (λ m. to_block a m b)
    where
      go : (o : Option ℕ) (m : ℕ) → slice_get (with_home o (homes c a)) m ≡ Some (OfBlock b)
          → ((m : ℕ) → slice_get (homes c a) m ≡ Some (OfBlock b) → Inside c (block_of c a) b)
          → Inside c (block_of c a) b
      go None m e on = on m e
      go (Some x) zero e on = absurd (cc e)
      go (Some x) (suc m) e on = on m e

  from_block : (a : Area) (b : ℕ) → Inside c (block_of c a) b → (n : ℕ) × (slice_get (homes c a) n ≡ Some (OfBlock b))
  from_block (Body d) b h = h
  from_block (Child a p k) b h = go (index_of_child (child_at c p k)) (from_block a b h)
    where
      go : (o : Option ℕ) → (n : ℕ) × (slice_get (homes c a) n ≡ Some (OfBlock b)) → (n : ℕ)
          × (slice_get (with_home o (homes c a)) n ≡ Some (OfBlock b))
      go None r = r
      go (Some x) r = (suc r.0, r.1)

  module _ (k : KeepsCodeRules c) (a : Area) (p b up : ℕ) (ss : List Shape) (l : Layout) (there : IsArea c a)
      (call : IsCalled c a p b up ss l) where
    level : is_block l.parent (slice_get (homes c a) up) ≡ true
    level =
        let e = k.levels a p (there, passes c a p ss call.reached) in
        let f = ap (level_fits c a) (sym call.call) ∙ e in
        sym (ap (λ (o : Option Layout). on_option false o (λ m. is_block m.parent (slice_get (homes c a) up)))
        call.layout)
        ∙ f

    -- so the block, if it is around the call, is just inside that level
    just_inside : (n : ℕ) → slice_get (homes c a) n ≡ Some (OfBlock b) → n + 1 ≡ up
    just_inside n e =
        let w = is_block_of c k l.parent (slice_get (homes c a) up) level in
        let from_b = area_drop c k a n b there e
        ∙ homes_step c k b w.0 l call.layout (inner c k b l (slice_get (homes c a) up) call.layout level) w.1 in
        let from_up = area_drop c k a up w.0 there w.2 in
        let m = slice_get_within (homes c a) n (OfBlock b) e in
        let v = slice_get_within (homes c a) up (OfBlock w.0) w.2 in
        let x = ap (λ (hs : List Home). length hs) from_b in
        let y = ap (λ (hs : List Home). length hs) from_up in
        let f = length-drop n (homes c a) in
        let g = length-drop up (homes c a) in
        omega (arith, m, v, x, y, f, g)

    pub inside_is : is_inside (homes c a) b up ≡ true → Inside c (block_of c a) b
    inside_is e = let r = and_parts (nat_lt 0 up) (is_block (Some b) (slice_get (homes c a) (up - 1))) e in
        to_block a (up - 1) b (block_is b (slice_get (homes c a) (up - 1)) r.1)

    pub is_inside_here : Inside c (block_of c a) b → is_inside (homes c a) b up ≡ true
    is_inside_here h =
        let r = from_block a b h in
        let s = just_inside r.0 r.1 in
        let t : r.0 ≡ up - 1 = omega (arith, s) in
        and_from (nat_lt 0 up) (is_block (Some b) (slice_get (homes c a) (up - 1))) (Prim.grind (arith, s))
        (is_block_here b (slice_get (homes c a) (up - 1)) (ap (slice_get (homes c a)) (sym t) ∙ r.1))

-- ---- flags

module _ (c : Parts) (k : KeepsCodeRules c) (first : BTreeMap ℕ ℕ) (s : Shapes) (shapes : AreShapes c s) where
  pub only : (p n : ℕ) → reached_at s p ≡ Some n → (a : Area) × LiesOnlyIn c p a
  only p n e =
      let (a, (is_area, comes)) = shapes.come p n (stands s p n e) in
      let l : LiesIn c p a = (is_area, passes c a p (list_of s.stacks n) comes) in
      (a, (l, λ b m. k.apart p b a m l))

  -- what an instruction that is reached calls inside itself
  module _ (p : ℕ) (o : Option ℕ) (come : (a : Area) (n : ℕ) → LiesOnlyIn c p a → reached_at s p ≡ Some n
      → o ≡ inside_of (homes c a) first (instr_at c p))
      (none : reached_at s p ≡ None → o ≡ None) where
    pub placed_is : (j : ℕ) → o ≡ Some j → CallsInside c first s p j
    placed_is j e = go (reached_at s p) refl
      where
        go : (t : Option ℕ) → reached_at s p ≡ t → CallsInside c first s p j
        go None h = absurd (none-some j (sym (none h) ∙ e))
        go (Some n) h = let a = only p n h in
            record { area = a.0; lies = a.1; stack = n; come = h; calls = sym (come a.0 n a.1 h) ∙ e }

    pub is_placed : (j : ℕ) → CallsInside c first s p j → o ≡ Some j
    is_placed j h = come h.area h.stack h.lies h.come ∙ h.calls

    some_more : (j : ℕ) → SomeCalls c first s (p + 1) j → SomeCalls c first s p j ⊎ (o ≡ Some j)
    some_more j h = go (less_same_or_more h.position p)
      where
        go : (h.position < p) ⊎ ((h.position ≡ p) ⊎ (p < h.position)) → SomeCalls c first s p j ⊎ (o ≡ Some j)
        go (inl l) = inl (record { position = h.position; before = l; calls = h.calls })
        go (inr (inl e)) = inr (is_placed j (subst (λ q. CallsInside c first s q j) e h.calls))
        go (inr (inr l)) = absurd (let m = h.before in omega (arith, l, m))

    more_some : (j : ℕ) → SomeCalls c first s p j ⊎ (o ≡ Some j) → SomeCalls c first s (p + 1) j
    more_some j (inl h) = record {
      position = h.position;
      before = (let m = h.before in omega (arith, m));
      calls = h.calls;
    }
    more_some j (inr e) = record { position = p; before = omega arith; calls = placed_is j e }

    -- a flag is set, or none is
    pub flagged : (old new : List Bool) (j : ℕ) → o ≡ Some j → Marks old new j → AreInside c first s p old
        → AreInside c first s (p + 1) new
    flagged old new j e m h = record {
      size = m.0 ∙ h.size;
      each = λ u l. (
        λ f. more_some u (split u l (or_cases (j == u) (flag_at old u) (sym (m.1 u (within u l))
            ∙ f))),
        λ f. m.1 u (within u l) ∙ set u l (some_more u f),
      );
    }
      where
        within : (u : ℕ) → u < length c.layouts → u < length old
        within u l = let g = h.size in omega (arith, g, l)

        split : (u : ℕ) → u < length c.layouts → (j == u ≡ true) ⊎ (flag_at old u ≡ true) → SomeCalls c first s p u
            ⊎ (o ≡ Some u)
        split u l (inl f) = inr (e ∙ ap Some (eqb-true j u f))
        split u l (inr f) = inl ((h.each u l).0 f)

        set : (u : ℕ) → u < length c.layouts → SomeCalls c first s p u ⊎ (o ≡ Some u)
            → ((j == u) || flag_at old u) ≡ true
        set u l (inl f) = or_right (j == u) (flag_at old u) ((h.each u l).1 f)
        set u l (inr f) = or_left (j == u) (flag_at old u) (eq-eqb j u (same_Some j u (sym e ∙ f)))

    pub not_flagged : (old : List Bool) → o ≡ None → AreInside c first s p old → AreInside c first s (p + 1) old
    not_flagged old e h = record {
      size = h.size;
      each = λ u l. (
        λ f. more_some u (inl ((h.each u l).0 f)),
        λ f. ⊎_elim (λ g. (h.each u l).1 g)
            (λ g. absurd (none-some u (sym e ∙ g))) (some_more u f),
      );
    }
