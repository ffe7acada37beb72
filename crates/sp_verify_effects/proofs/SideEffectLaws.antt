-- Rule V8: what the pass finds is broken, and what is broken it finds.
use Rattle.std.proofs.Common.{◌≡◌, inl, inr, ⊎_elim, refl, sym, ap, subst, ◌∙◌, ℕ, List, length, Option, Some, None}
use Rattle.std.proofs.Common.{Bool, true, ◌&&◌, ◌||◌, arith}
use Rattle.std.specs.Prelude.{not, slice_get}
use Rattle.std.proofs.lemmas.Option.{slice_get_within}
use Rattle.std.proofs.lemmas.Bool.{and_from, and_parts, not-true, or_cases, or_left, or_right}
use Rattle.sp_base.proofs.Facts.{not_true_and_false}
use Rattle.sp_code.specs.declared.code.Layout.{Layout}
use Rattle.sp_code.specs.declared.code.Parts.{Parts}
use Rattle.sp_code.specs.Machine.{layout_of}
use Rattle.sp_verify_rules.specs.Areas.{Area, Body, entry, entry_of_layout}
use Rattle.sp_verify_rules.specs.Effects.{Does}
use Rattle.sp_verify_rules.specs.Forks as fork
use Rattle.sp_verify_rules.specs.NameRules.{BreaksV1}
use Rattle.sp_verify_rules.specs.Verdict.{BreaksV8, HasStop}
use Rattle.sp_verify_areas.specs.declared.owners.Owner.{Owner}
use Rattle.sp_verify_areas.specs.LeastPlaces.{IsLeast, Upto, earlier_of}
use Rattle.sp_verify_areas.specs.Owners.{AreOwners}
use Rattle.sp_verify_effects.specs.declared.effects.EffectRow.{EffectRow}
use Rattle.sp_verify_effects.specs.declared.effects.Effects.{Effects}
use Rattle.sp_verify_effects.specs.declared.asked_areas.Asked.{Asked}
use Rattle.sp_verify_effects.specs.declared.facts.Effect.{Effect}
use Rattle.sp_verify_effects.specs.declared.facts.Effect.TheVariants as effect
use Rattle.sp_verify_effects.specs.declared.facts.Fact.{Fact}
use Rattle.sp_verify_effects.specs.Allowances.{IsOwnEffect}
use Rattle.sp_verify_effects.specs.AskedAreas.{AsksOutside, has_block, is_asked, is_below}
use Rattle.sp_verify_effects.specs.Effects.{AreEffects, IsRowOf}
use Rattle.sp_verify_effects.specs.FactClosure.{IsDone, IsEffectOf}
use Rattle.sp_verify_effects.specs.SideEffects.{HasSideEffects, LayoutHasSideEffects, has_side_effects, is_side_effect}
use Rattle.sp_verify_effects.specs.Variables.{AreOwn, goes_out, owns}
use Rattle.sp_verify_effects.proofs.BlockVariables.{in_own, layout_here, one_layout, out_from, out_is}
use Rattle.sp_verify_effects.proofs.BreachLaws.{least_or_known}
use Rattle.sp_verify_effects.proofs.Exact.{one_area}

-- ---- one layout

module _ (c : Parts) (kept : (p : ℕ) → BreaksV1 c p → ⊥) (ks : List (ℕ × ℕ)) (own : AreOwn c ks) (j : ℕ) (l : Layout)
    (is : slice_get c.layouts j ≡ Some l) where
  at : layout_of c.layouts l.block ≡ Some l
  at = layout_here c kept j l is

  side_effects_is : (o : Option EffectRow) → has_side_effects ks l o ≡ true → HasSideEffects l o
  side_effects_is None e = absurd (cc e)
  side_effects_is (Some d) e =
      let b = and_parts l.answer (d.stops || goes_out ks l.entry 0 d.stored) e in (
        b.0,
        ⊎_elim (λ h. inr h)
            (λ h. let (x, is_stored, _, outside) = out_is c kept ks own l.block l at 0 d.stored h in
            inl (x, is_stored, outside))
            (or_cases d.stops (goes_out ks l.entry 0 d.stored) b.1),
      )

  side_effect_from : (o : Option EffectRow) → HasSideEffects l o → has_side_effects ks l o ≡ true
  side_effect_from None h = absurd h
  side_effect_from (Some d) (a, inr s) = and_from l.answer (d.stops
      || goes_out ks l.entry 0 d.stored) a (or_left d.stops (goes_out ks l.entry 0 d.stored) s)
  side_effect_from (Some d) (a, inl (x, i, m)) =
      and_from l.answer (d.stops || goes_out ks l.entry 0 d.stored) a
      (or_right d.stops (goes_out ks l.entry 0 d.stored)
      (out_from c kept ks own l.block l at 0 d.stored x i (omega arith) m))

  pub one_side_effect : (e : Effects) (b : Bool) (o : Option ℕ) → b ≡ has_side_effects ks l (slice_get e.rows l.entry)
      → IsLeast (λ p. (l.entry ≡ p) × (b ≡ true)) o → IsLeast (LayoutHasSideEffects e c.layouts j) o
  one_side_effect e b o t h =
      one_layout (λ i m. HasSideEffects m (slice_get e.rows m.entry)) c.layouts j l b o is
      (λ f. side_effects_is (slice_get e.rows l.entry) (sym t ∙ f))
      (λ f. t ∙ side_effect_from (slice_get e.rows l.entry) f) h

-- ---- the row of a block

pub body_row : (c : Parts) (e : Effects) (are : AreEffects c e) (l : Layout) → layout_of c.layouts l.block ≡ Some l
    → (d : EffectRow) × (slice_get e.rows l.entry ≡ Some d) × IsRowOf c e.asked (Body l.block) d
body_row c e are l is =
    let r = are.found.rows (Body l.block) (l, is) in
    (r.0, ap (slice_get e.rows) (sym (ap entry_of_layout is)) ∙ r.1, r.2)

-- what it does outside itself is asked about
abbrev pub AsksBody : Parts → Asked → Layout → Type 0
AsksBody c k l = (d : Effect) → (IsOwnEffect l d → ⊥) → is_asked k (entry c (Body l.block)) d ≡ true

pub asked_body : (c : Parts) (k : Asked) (l : Layout) → layout_of c.layouts l.block ≡ Some l → AsksOutside k l
    → AsksBody c k l
asked_body c k l is asks = λ d h. subst (λ m. is_asked k m d ≡ true) (sym (ap entry_of_layout is)) (asks d h)

-- ---- V8

module _ (c : Parts) (e : Effects) (are : AreEffects c e) (kept : (p : ℕ) → BreaksV1 c p → ⊥) where
  module _ (l : Layout) (q : AsksBody c e.asked l) (d : EffectRow)
      (effects_of : IsRowOf c e.asked (Body l.block) d) where
    to_rule : HasSideEffects l (Some d) → fork.BreaksV8 c (Does c) (HasStop c) l l.block
    to_rule (a, inl (x, i, m)) = (a, inl (x, (effects_of.stored x (q (effect.Stores x) m)).0 i, m))
    to_rule (a, inr s) = (a, inr ((effects_of.stops (q effect.Stops (λ z. z))).0 s))

    from_rule : fork.BreaksV8 c (Does c) (HasStop c) l l.block → HasSideEffects l (Some d)
    from_rule (a, inl (x, i, m)) = (a, inl (x, (effects_of.stored x (q (effect.Stores x) m)).1 i, m))
    from_rule (a, inr s) = (a, inr ((effects_of.stops (q effect.Stops (λ z. z))).1 s))

  abbrev IsBefore : ℕ → Type 0
  IsBefore p = is_below e.asked.known.side_effect p ≡ true

  -- what a block that answers does outside itself is asked about
  asks : (j : ℕ) (l : Layout) → slice_get c.layouts j ≡ Some l → l.answer ≡ true → IsBefore l.entry
      → AsksBody c e.asked l
  asks j l is a b = asked_body c e.asked l (layout_here c kept j l is)
      (are.asks.layouts j l is
      (or_left (l.answer && is_below e.asked.known.side_effect l.entry) (has_block e.asked l.entry)
      (and_from l.answer (is_below e.asked.known.side_effect l.entry) a b)))

  answers : (l : Layout) (o : Option EffectRow) → HasSideEffects l o → l.answer ≡ true
  answers l None h = absurd h
  answers l (Some d) h = h.0

  abbrev IsFound : ℕ → Type 0
  IsFound = Upto (LayoutHasSideEffects e c.layouts) (length c.layouts)

  found : (p : ℕ) → IsBefore p → IsFound p → BreaksV8 c p
  found p b u = go u.item u.holds
    where
      go : (j : ℕ) → LayoutHasSideEffects e c.layouts j p → BreaksV8 c p
      go j (l, is, at, h) =
          let r = body_row c e are l (layout_here c kept j l is) in
          let q = asks j l is (answers l (slice_get e.rows l.entry) h) (subst IsBefore (sym at) b) in
          (l, (j, is), at, to_rule l q r.0 r.2 (subst (HasSideEffects l) r.1 h))

  finds : (p : ℕ) → IsBefore p → BreaksV8 c p → IsFound p
  finds p b (l, (j, is), at, h) =
      let r = body_row c e are l (layout_here c kept j l is) in
      let q = asks j l is h.0 (subst IsBefore (sym at) b) in
      record {
        item = j;
        below = slice_get_within c.layouts j l is;
        holds = (l, is, at, subst (HasSideEffects l) (sym r.1) (from_rule l q r.0 r.2 h));
      }

  -- the first one that is found, or the one that is known
  pub v8_least : (o : Option ℕ) → IsLeast IsFound o → IsLeast (BreaksV8 c) (earlier_of o e.asked.known.side_effect)
  v8_least = least_or_known IsFound (BreaksV8 c) e.asked.known.side_effect are.asks.known.side_effect found finds

-- ---- what one fact shows

module _ (c : Parts) (kept : (p : ℕ) → BreaksV1 c p → ⊥) (os : List Owner) (owners : AreOwners c os) (ks : List (ℕ × ℕ))
    (own : AreOwn c ks) where
  pub fact_breaks : (j : ℕ) (l : Layout) → slice_get c.layouts j ≡ Some l → (f : Fact) → IsDone c f → l.entry ≡ f.area
      → is_side_effect ks l f.effect ≡ true → BreaksV8 c l.entry
  fact_breaks j l is f (a, ia, at, does) begins h =
      (l, (j, is), refl, rule f.effect (subst (λ (z : Area). IsEffectOf c z f.effect) same does) h)
    where
      here : layout_of c.layouts l.block ≡ Some l
      here = layout_here c kept j l is

      same : a ≡ Body l.block
      same = one_area c kept os owners a (Body l.block) ia (l, here)
          (sym at ∙ (sym begins ∙ sym (ap entry_of_layout here)))

      rule : (d : Effect) → IsEffectOf c (Body l.block) d → is_side_effect ks l d ≡ true
          → fork.BreaksV8 c (Does c) (HasStop c) l l.block
      rule (effect.Stores x) d e =
          let b = and_parts l.answer (not (owns ks l.entry x)) e in (
            b.0,
            inl (
              x,
              d,
              λ m. not_true_and_false (owns ks l.entry x) (in_own c kept ks own l.block l here x m)
                  (not-true (owns ks l.entry x) b.1),
            ),
          )
      rule (effect.Loads x) d e = absurd (cc e)
      rule effect.Stops d e = (e, inr d)
