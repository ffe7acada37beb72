-- Rule V7: what the passes find is broken, and what is broken they find.
use Rattle.std.proofs.Common.{◌≡◌, ◌⊎◌, inl, inr, ⊎_elim, refl, sym, ap, subst, ◌∙◌, ℕ, ◌<◌, List, length, Option, Some}
use Rattle.std.proofs.Common.{None, Bool, true, false, ◌&&◌, ◌||◌, if◌then◌else◌, ◌==◌, arith, eqb-true}
use Rattle.std.specs.Prelude.{slice_get, ◌↔◌}
use Rattle.std.specs.BTreeMap.{BTreeMap}
use Rattle.std.proofs.lemmas.Bool.{eq-eqb, and_from, and_parts, or_cases, or_left, or_right}
use Rattle.std.proofs.lemmas.Option.{slice_get_within, none-some}
use Rattle.sp_base.proofs.Facts.{not_true_and_false}
use Rattle.sp_tree.specs.Interference.{IsMember}
use Rattle.sp_code.specs.declared.instr.Instr.{Instr}
use Rattle.sp_code.specs.declared.instr.Instr.TheVariants as i
use Rattle.sp_code.specs.declared.code.Layout.{Layout}
use Rattle.sp_code.specs.declared.code.Parts.{Parts}
use Rattle.sp_code.specs.Machine.{layout_of}
use Rattle.sp_code.specs.Memory.{Home}
use Rattle.sp_code.specs.Sizes.{KeepsSizes}
use Rattle.sp_verify_rules.specs.Areas.{Area, Body, homes, instr_at}
use Rattle.sp_verify_rules.specs.Effects.{Does, IsCalled, IsEffect, Loaded, Stored}
use Rattle.sp_verify_rules.specs.Forks as fork
use Rattle.sp_verify_rules.specs.KeepsCodeRules.{KeepsCodeRules}
use Rattle.sp_verify_rules.specs.NameRules.{BreaksV1, BlocksApart, IsLayout, LiesIn}
use Rattle.sp_verify_rules.specs.Rules.{BreaksV2, BreaksV3, BreaksV4, BreaksV5}
use Rattle.sp_verify_rules.specs.Verdict.{BreaksV7, HasStop, Inside}
use Rattle.sp_verify_rules.proofs.Assembly.{fits_types, have_children}
use Rattle.sp_verify_rules.proofs.Premises.{keeps}
use Rattle.sp_verify_rules.proofs.FrameScopes.{found_layout}
use Rattle.sp_verify_rules.proofs.ShapePaths.{passes}
use Rattle.sp_verify_areas.specs.Alone.{flag_at}
use Rattle.sp_verify_areas.specs.Blocks.{IsNumbered, number_from, number_of}
use Rattle.sp_verify_areas.specs.LeastPlaces.{IsLeast, Upto, earlier_of}
use Rattle.sp_verify_areas.specs.Owners.{entry_at}
use Rattle.sp_verify_areas.proofs.BlockLaws.{place_some}
use Rattle.sp_verify_areas.proofs.Leasts.{both}
use Rattle.sp_verify_shapes.specs.declared.shapes.Shapes.{Shapes}
use Rattle.sp_verify_shapes.specs.Shapes.{AreShapes}
use Rattle.sp_verify_shapes.specs.Stacks.{list_of}
use Rattle.sp_verify_shapes.proofs.ReachLaws.{reached_there, stands}
use Rattle.sp_verify_effects.specs.declared.effects.EffectRow.{EffectRow}
use Rattle.sp_verify_effects.specs.declared.effects.Effects.{Effects}
use Rattle.sp_verify_effects.specs.AskedAreas.{AsksOutside, has_block, inside_entry, is_below}
use Rattle.sp_verify_effects.specs.declared.facts.Effect.TheVariants as effect
use Rattle.sp_verify_effects.specs.Calls.{CallFails}
use Rattle.sp_verify_effects.specs.Effects.{AreEffects, IsRowOf}
use Rattle.sp_verify_effects.specs.Turns.{AreInside, LayoutTurns, SomeCalls, Turns, inside_of, is_inside, turns}
use Rattle.sp_verify_effects.specs.Variables.{AreOwn, goes_out}
use Rattle.sp_verify_effects.proofs.BreachLaws.{least_or_known}
use Rattle.sp_verify_effects.proofs.Inward.{inside_is, is_inside_here}
use Rattle.sp_verify_effects.proofs.SideEffectLaws.{AsksBody, asked_body, body_row}
use Rattle.sp_verify_effects.proofs.BlockVariables.{layout_here, one_layout, out_from, out_is}
use Rattle.sp_verify_effects.proofs.CallTests.{call_found, call_finds, place_there}

-- ---- one layout

module _ (c : Parts) (kept : (p : ℕ) → BreaksV1 c p → ⊥) (ks : List (ℕ × ℕ)) (own : AreOwn c ks) (j : ℕ) (l : Layout)
    (is : slice_get c.layouts j ≡ Some l) where
  here : layout_of c.layouts l.block ≡ Some l
  here = layout_here c kept j l is

  abbrev pub Out : List ℕ → Bool
  Out xs = goes_out ks l.entry 2 xs

  turns_is : (flag : Bool) (o : Option EffectRow) → turns ks flag l o ≡ true → Turns flag l o
  turns_is flag None e = absurd (cc e)
  turns_is flag (Some d) e =
      let b = and_parts flag (Out d.stored || Out d.loaded) e in (
        b.0,
        ⊎_elim
            (λ h. let (x, is_stored, at_least, outside) = out_is c kept ks own l.block l here 2 d.stored h in
            (x, inl is_stored, outside, omega (arith, at_least)))
            (λ h. let (x, is_loaded, at_least, outside) = out_is c kept ks own l.block l here 2 d.loaded h in
            (x, inr is_loaded, outside, omega (arith, at_least)))
            (or_cases (Out d.stored) (Out d.loaded) b.1),
      )

  turns_from : (flag : Bool) (o : Option EffectRow) → Turns flag l o → turns ks flag l o ≡ true
  turns_from flag None h = absurd h
  turns_from flag (Some d) (f, (x, inl i, m, h)) =
      and_from flag (Out d.stored || Out d.loaded) f
      (or_left (Out d.stored) (Out d.loaded)
      (out_from c kept ks own l.block l here 2 d.stored x i (omega (arith, h)) m))
  turns_from flag (Some d) (f, (x, inr i, m, h)) =
      and_from flag (Out d.stored || Out d.loaded) f
      (or_right (Out d.stored) (Out d.loaded)
      (out_from c kept ks own l.block l here 2 d.loaded x i (omega (arith, h)) m))

  pub one_turn : (flags : List Bool) (e : Effects) (b : Bool) (o : Option ℕ)
      → b ≡ turns ks (flag_at flags j) l (slice_get e.rows l.entry)
      → IsLeast (λ p. (l.entry ≡ p) × (b ≡ true)) o → IsLeast (LayoutTurns e flags c.layouts j) o
  one_turn flags e b o t h =
      one_layout (λ n m. Turns (flag_at flags n) m (slice_get e.rows m.entry)) c.layouts j l b o is
      (λ f. turns_is (flag_at flags j) (slice_get e.rows l.entry) (sym t ∙ f))
      (λ f. t ∙ turns_from (flag_at flags j) (slice_get e.rows l.entry) f) h

-- ---- blocks that are called inside themselves

-- the second way to break V7
abbrev pub TurnBreaks : Parts → ℕ → Type 0
TurnBreaks c p = (l : Layout) × IsLayout c l × (l.entry ≡ p)
    × fork.BreaksV7Inside c (Does c) (HasStop c) (Inside c) l l.block

inside_call : (hs : List Home) (first : BTreeMap ℕ ℕ) (o : Option Instr) (j : ℕ) → inside_of hs first o ≡ Some j
    → (b up : ℕ) × (o ≡ Some (i.Call b up)) × (is_inside hs b up ≡ true) × (number_of first b ≡ Some j)
inside_call hs first (Some (i.Call b up)) j e = go (is_inside hs b up) refl e
  where
    go : (t : Bool) → is_inside hs b up ≡ t → (if t then number_of first b else None) ≡ Some j
        → (d v : ℕ) × (Some (i.Call b up) ≡ Some (i.Call d v)) × (is_inside hs d v ≡ true)
        × (number_of first d ≡ Some j)
    go true t e = (b, up, refl, t, e)
    go false t e = absurd (none-some j e)
inside_call hs first o j e = absurd (none-some j e)

module _ (c : Parts) (k : KeepsCodeRules c) (kept : (p : ℕ) → BreaksV1 c p → ⊥) (e : Effects) (are : AreEffects c e)
    (first : BTreeMap ℕ ℕ) (numbered : IsNumbered first c.layouts) (s : Shapes) (shapes : AreShapes c s)
    (flags : List Bool) (inside : AreInside c first s (length c.instrs) flags) where
  module _ (j : ℕ) (l : Layout) (is : slice_get c.layouts j ≡ Some l) where
    at : layout_of c.layouts l.block ≡ Some l
    at = layout_here c kept j l is

    below : j < length c.layouts
    below = slice_get_within c.layouts j l is

    called_is : flag_at flags j ≡ true → fork.IsCalledInside c (Does c) (HasStop c) (Inside c) l.block
    called_is f = by_call ((inside.each j below).0 f)
      where
        by_call : SomeCalls c first s (length c.instrs) j
            → fork.IsCalledInside c (Does c) (HasStop c) (Inside c) l.block
        by_call h =
            let q = h.calls in
            let (b, up, call_is, inward, number_is) = inside_call (homes c q.area) first
            (instr_at c h.position) j q.calls in
            let same_place = place_some c.layouts b j (sym (numbered b) ∙ number_is) in
            let here : layout_of c.layouts b ≡ Some l = sym same_place ∙ is in
            let named : l.block ≡ b = (found_layout c.layouts b l here).0 in
            let (a, (is_area, comes)) = shapes.come h.position q.stack (stands s h.position q.stack q.come) in
            let lies : LiesIn c h.position a = (is_area, passes c a h.position (list_of s.stacks q.stack) comes) in
            let alike : a ≡ q.area = q.lies.1 a lies in
            let call : IsCalled c a h.position b up
            (list_of s.stacks q.stack) l = record { reached = comes; call = call_is; layout = here } in
            let round = inside_is c k a h.position b up (list_of s.stacks q.stack) l is_area call
            (subst (λ (z : Area). is_inside (homes c z) b up ≡ true) (sym alike) inward) in
            subst (λ d. fork.IsCalledInside c (Does c) (HasStop c) (Inside c) d) (sym named)
            (a, h.position, up, list_of s.stacks q.stack, l, is_area, call, round)

    -- its block has that place
    placed : number_of first l.block ≡ Some j
    placed = go (place_there c.layouts l.block l at)
      where
        go : (n : ℕ) × (number_from 0 c.layouts l.block ≡ Some n) × (slice_get c.layouts n ≡ Some l)
            → number_of first l.block ≡ Some j
        go (n, f, g) = numbered l.block ∙ f ∙ ap Some (alike (n == j) refl)
          where
            alike : (t : Bool) → n == j ≡ t → n ≡ j
            alike true h = eqb-true n j h
            alike false h = absurd (kept l.entry
                (BlocksApart (
                  j,
                  l,
                  is,
                  refl,
                  inl (n, l, g, (λ z. not_true_and_false (n == j) (eq-eqb n j z) h), refl),
                )))

    is_called : fork.IsCalledInside c (Does c) (HasStop c) (Inside c) l.block → flag_at flags j ≡ true
    is_called (a, p, up, ss, m, there, call, round) =
        let n = shapes.all a p ss (there, call.reached) in
        let lies : LiesIn c p a = (there, passes c a p ss call.reached) in
        let h = is_inside_here c k a p l.block up ss m there call round in
        let calls = ap (λ (o : Option Instr). inside_of (homes c a) first o) call.call
        ∙ ap (λ t. if t then number_of first l.block else None) h ∙ placed in
        (inside.each j below).1 (record {
          position = p;
          before = slice_get_within c.instrs p (i.Call l.block up) call.call;
          calls = record {
            area = a;
            lies = (lies, λ b z. k.apart p b a z lies);
            stack = n.0;
            come = reached_there s p n.0 n.1;
            calls = calls;
          };
        })

    module _ (q : AsksBody c e.asked l) (d : EffectRow)
        (effects_of : IsRowOf c e.asked (Body l.block) d) where
      stores : (x : ℕ) → (IsMember x l.variables → ⊥)
          → IsMember x d.stored ↔ IsEffect c (Does c) Stored (Body l.block) x
      stores x m = effects_of.stored x (q (effect.Stores x) m)

      loads : (x : ℕ) → (IsMember x l.variables → ⊥)
          → IsMember x d.loaded ↔ IsEffect c (Does c) Loaded (Body l.block) x
      loads x m = effects_of.loaded x (q (effect.Loads x) m)

      turn_rule : Turns (flag_at flags j) l (Some d) → fork.BreaksV7Inside c (Does c) (HasStop c) (Inside c) l l.block
      turn_rule (f, (x, inl h, m, z)) = (called_is f, (x, (inl ((stores x m).0 h), m), z))
      turn_rule (f, (x, inr h, m, z)) = (called_is f, (x, (inr ((loads x m).0 h), m), z))

      rule_turn : fork.BreaksV7Inside c (Does c) (HasStop c) (Inside c) l l.block → Turns (flag_at flags j) l (Some d)
      rule_turn (f, (x, (inl h, m), z)) = (is_called f, (x, inl ((stores x m).1 h), m, z))
      rule_turn (f, (x, (inr h, m), z)) = (is_called f, (x, inr ((loads x m).1 h), m, z))

    -- what it does outside itself is asked about
    asks : flag_at flags j ≡ true → AsksBody c e.asked l
    asks f = asked_body c e.asked l at (by_call ((inside.each j below).0 f))
      where
        by_call : SomeCalls c first s (length c.instrs) j → AsksOutside e.asked l
        by_call h =
            let q = h.calls in
            let (b, _, call_is, inward, number_is) = inside_call (homes c q.area) first
            (instr_at c h.position) j q.calls in
            let same_place = place_some c.layouts b j (sym (numbered b) ∙ number_is) in
            let ls = c.layouts in
            are.asks.layouts j l is
            (or_right (l.answer && is_below e.asked.known.side_effect l.entry) (has_block e.asked l.entry)
            (are.asks.inside h.position q.area l.entry q.lies
            (ap (inside_entry (homes c q.area) ls) call_is
            ∙ ap (λ t. if t then entry_at (layout_of ls b) else None) inward ∙ ap entry_at (sym same_place ∙ is))))

  flagged : (flag : Bool) (l : Layout) (o : Option EffectRow) → Turns flag l o → flag ≡ true
  flagged flag l None h = absurd h
  flagged flag l (Some d) h = h.0

  turn_found : (j p : ℕ) → LayoutTurns e flags c.layouts j p → TurnBreaks c p
  turn_found j p (l, is, first, h) =
      let r = body_row c e are l (at j l is) in
      let q = asks j l is (flagged (flag_at flags j) l (slice_get e.rows l.entry) h) in
      (l, (j, is), first, turn_rule j l is q r.0 r.2 (subst (Turns (flag_at flags j) l) r.1 h))

  turn_finds : (p : ℕ) → TurnBreaks c p → Upto (LayoutTurns e flags c.layouts) (length c.layouts) p
  turn_finds p (l, (j, is), first, h) =
      let r = body_row c e are l (at j l is) in
      record {
        item = j;
        below = slice_get_within c.layouts j l is;
        holds = (
          l,
          is,
          first,
          subst (Turns (flag_at flags j) l) (sym r.1)
              (rule_turn j l is (asks j l is (is_called j l is h.0)) r.0 r.2 h),
        );
      }

  abbrev pub SomeTurns : ℕ → Type 0
  SomeTurns = Upto (LayoutTurns e flags c.layouts) (length c.layouts)

  abbrev pub IsBefore : ℕ → Type 0
  IsBefore p = is_below e.asked.known.clash p ≡ true

  found : (p : ℕ) → IsBefore p → CallFails c e s p ⊎ SomeTurns p → BreaksV7 c p
  found p below (inl h) = inl (call_found c e are kept s shapes p below h)
  found p below (inr u) = inr (turn_found u.item p u.holds)

  finds : (p : ℕ) → IsBefore p → BreaksV7 c p → CallFails c e s p ⊎ SomeTurns p
  finds p below (inl h) = inl (call_finds c e are kept s shapes p below h)
  finds p below (inr h) = inr (turn_finds p h)

  -- the first one that is found, or the one that is known
  pub v7_least : (a b : Option ℕ) → IsLeast (CallFails c e s) a → IsLeast SomeTurns b
      → IsLeast (BreaksV7 c) (earlier_of (earlier_of a b) e.asked.known.clash)
  v7_least a b h g = least_or_known (λ p. CallFails c e s p ⊎ SomeTurns p) (BreaksV7 c) e.asked.known.clash
      are.asks.known.clash found finds (earlier_of a b) (both (CallFails c e s) SomeTurns a b h g)

-- ---- code that keeps V1 to V5

pub keeps_all : (c : Parts) → KeepsSizes c → ((p : ℕ) → BreaksV1 c p → ⊥) → ((p : ℕ) → BreaksV2 c p → ⊥)
    → ((p : ℕ) → BreaksV3 c p → ⊥) → ((p : ℕ) → BreaksV4 c p → ⊥) → ((p : ℕ) → BreaksV5 c p → ⊥) → KeepsCodeRules c
keeps_all c sizes = keeps c (have_children c sizes) (fits_types c sizes)
