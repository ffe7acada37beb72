-- The facts that are found are those of the areas: each follows, and none is left out.
use Rattle.std.proofs.Common.{◌≡◌, inl, inr, ⊎_elim, refl, ap, sym, ◌∙◌, subst, ℕ, zero, suc, ◌<◌, ◌==◌, List, [], ◌∷◌}
use Rattle.std.proofs.Common.{length, Option, Some, None, Bool, true, false, if◌then◌else◌, arith, eqb-true}
use Rattle.std.specs.Prelude.{slice_get}
use Rattle.std.proofs.lemmas.Bool.{eq-eqb}
use Rattle.std.proofs.lemmas.Option.{slice_get_within, none-some, same_Some}
use Rattle.sp_base.proofs.Facts.{not_true_and_false}
use Rattle.sp_tree.specs.Interference.{IsMember}
use Rattle.sp_code.specs.declared.instr.Instr.{Instr}
use Rattle.sp_code.specs.declared.instr.Instr.TheVariants as i
use Rattle.sp_code.specs.declared.code.Layout.{Layout}
use Rattle.sp_code.specs.declared.code.ChildTable.{ChildTable}
use Rattle.sp_code.specs.declared.code.Parts.{Parts}
use Rattle.sp_verify_rules.specs.Areas.{Area, Body, Child, instr_at, child_at, table_named, entry, entry_of_layout}
use Rattle.sp_verify_rules.specs.Areas.{entry_of_child}
use Rattle.sp_verify_rules.specs.Shapes.{Shape}
use Rattle.sp_verify_rules.specs.Reach.{IsArea, IsInCodeOf}
use Rattle.sp_verify_rules.specs.Touches.{stored_by, loaded_by}
use Rattle.sp_verify_rules.specs.Effects.{EffectKind, Stored, Loaded, CountsAsEffect, IsNumber, IsActual, Becomes}
use Rattle.sp_verify_rules.specs.Effects.{IsStarted, IsCalled}
use Rattle.sp_verify_rules.specs.Effects.{Does, IsEffect}
use Rattle.sp_verify_rules.specs.Verdict.{HasStop, is_stop}
use Rattle.sp_verify_rules.specs.NameRules.{BreaksV1, InTwo, LiesIn}
use Rattle.sp_verify_areas.specs.Alone.{flag_at}
use Rattle.sp_verify_areas.specs.declared.owners.Owner.{Owner}
use Rattle.sp_verify_areas.specs.declared.owners.Owner.TheVariants as owner
use Rattle.sp_verify_areas.specs.Owners.{AreOwners, Owns}
use Rattle.sp_verify_rules.proofs.ShapePaths.{passes}
use Rattle.sp_verify_rules.proofs.EffectLaws.{does_effect, child_effect, called_effect, effects_within, stops_within}
use Rattle.sp_verify_areas.proofs.OwnerClosure.{name_of}
use Rattle.sp_verify_effects.specs.declared.asked_areas.Asked.{Asked}
use Rattle.sp_verify_effects.specs.declared.edges.Edge.{Edge}
use Rattle.sp_verify_effects.specs.declared.edges.Edge.TheVariants as edge
use Rattle.sp_verify_effects.specs.declared.facts.Fact.{Fact}
use Rattle.sp_verify_effects.specs.declared.facts.Effect.{Effect}
use Rattle.sp_verify_effects.specs.declared.facts.Effect.TheVariants as effect
use Rattle.sp_verify_effects.specs.Facts.{has_fact, fact, Tells}
use Rattle.sp_verify_effects.specs.Own.{DoesAt, OwnBefore}
use Rattle.sp_verify_effects.specs.Edges.{AreEdges, EdgeAt, HasEdge, HasEdges}
use Rattle.sp_verify_effects.specs.Effects.{ComesToStop}
use Rattle.sp_verify_effects.specs.AskedAreas.{is_asked}
use Rattle.sp_verify_effects.specs.FactClosure.{is_own, is_index, fact_along, FollowsBy, FollowsEdges}
use Rattle.sp_verify_effects.specs.FactClosure.{AreDone, AreFacts, Closes, IsDone, IsEffectOf}
use Rattle.sp_verify_effects.specs.Variables.{AreOwn, owns}
use Rattle.sp_verify_effects.proofs.EdgeRows.{entry_within}
use Rattle.sp_verify_effects.proofs.BlockVariables.{begins, in_own, own_in}

-- ---- areas by their first instructions

owner_is : (os : List Owner) (p : ℕ) → p < length os → (o : Owner) × (slice_get os p ≡ Some o)
owner_is [] p l = absurd (omega (arith, l))
owner_is (o ∷ os) zero l = (o, refl)
owner_is (o ∷ os) (suc p) l = owner_is os p (omega (arith, l))

module _ (c : Parts) (kept : (p : ℕ) → BreaksV1 c p → ⊥) (os : List Owner) (owners : AreOwners c os) where
  alone : (p : ℕ) (o : Owner) → Owns c p o → (a b : Area) → LiesIn c p a → LiesIn c p b → a ≡ b
  alone p owner.Nobody h a b la lb = absurd (h a la)
  alone p (owner.Block d) h a b la lb = h.only a la ∙ sym (h.only b lb)
  alone p (owner.Child q k) h a b la lb = h.only a la ∙ sym (h.only b lb)
  alone p owner.Several h a b la lb = absurd (kept p (InTwo (h.first, h.lies, inl (h.second, h.too, h.apart))))

  pub one_area : (a b : Area) → IsArea c a → IsArea c b → entry c a ≡ entry c b → a ≡ b
  one_area a b ia ib e =
      let l = entry_within c kept a ia in
      let o = owner_is os (entry c a) (let s = owners.0 in omega (arith, l, s)) in
      alone (entry c a) o.0 (owners.1 (entry c a) o.0 o.1) a b (begins c kept a ia)
      (subst (λ p. LiesIn c p b) (sym e) (begins c kept b ib))

  -- what an area does itself
  does_effect_of : (a : Area) (p : ℕ) (d : Effect) → DoesAt c a p d → IsEffectOf c a d
  does_effect_of a p (effect.Stores x) (inl (ss, r, h)) = does_effect c (Does c) Stored a x (inl (p, ss, r, h))
  does_effect_of a p (effect.Stores x) (inr (k, t, s, h)) = does_effect c (Does c) Stored a x (inr (p, k, t, s, h))
  does_effect_of a p (effect.Loads x) (inl (ss, r, h)) = does_effect c (Does c) Loaded a x (inl (p, ss, r, h))
  does_effect_of a p (effect.Loads x) (inr (k, t, s, h)) = does_effect c (Does c) Loaded a x (inr (p, k, t, s, h))
  does_effect_of a p effect.Stops (inl (ss, r, h)) = ([], (p, ss, r, h))
  does_effect_of a p effect.Stops (inr (k, t, s, h)) = absurd h

  first_true : (k : Asked) (old : List Fact) → Tells [] old (OwnBefore c k (length c.instrs)) → AreDone c old
  first_true k old start g h = ⊎_elim (λ z. absurd (cc z))
      (λ (w : OwnBefore c k (length c.instrs) g).
      let (p, _, ((a, lies, at, does), _)) = w in (a, lies.0, at, does_effect_of a p g.effect does))
      (start.only g h)

  pub told_done : (k : Asked) (none told : List Fact) → none ≡ []
      → Tells none told (OwnBefore c k (length c.instrs)) → AreDone c told
  told_done k none told e start = first_true k told
      (subst (λ (z : List Fact). Tells z told (OwnBefore c k (length c.instrs))) e start)

  module _ (ks : List (ℕ × ℕ)) (are_own : AreOwn c ks) where
    -- ---- each follows

    led : (a : Area) (d : Effect) (g : Fact) → IsArea c a → Some (fact (entry c a) d) ≡ Some g → IsEffectOf c a d
        → IsDone c g
    led a d g ia e h = let s = same_Some (fact (entry c a) d) g e in
        (a, ia, ap (λ (z : Fact). z.area) (sym s), subst (λ (z : Fact). IsEffectOf c a z.effect) s h)

    not_aside : (o : Option ℕ) (x : ℕ) → is_index o x ≡ false → CountsAsEffect Loaded o x
    not_aside None x e = tt
    not_aside (Some y) x e = λ s. not_true_and_false (x == y) (eq-eqb x y s) e

    module _ (a : Area) (ia : IsArea c a) (p : ℕ) (g : Fact) where
      by_start : (k : ℕ) (t : ChildTable) (own : Bool) (d : Effect) → IsStarted c a p k t → IsEffectOf c (Child a p k) d
          → fact_along (edge.Started (entry c a) t.index) own d ≡ Some g → IsDone c g
      by_start k t own (effect.Stores x) s h e = led a (effect.Stores x) g ia e
          (child_effect c (Does c) Stored a p k x t s tt h)
      by_start k t own (effect.Loads x) s h e = go (is_index t.index x) refl e
        where
          go : (b : Bool) → is_index t.index x ≡ b
              → (if b then None else Some (fact (entry c a) (effect.Loads x))) ≡ Some g → IsDone c g
          go true z e = absurd (none-some g e)
          go false z e = led a (effect.Loads x) g ia e
              (child_effect c (Does c) Loaded a p k x t s (not_aside t.index x z) h)
      by_start k t own effect.Stops s h e = led a effect.Stops g ia e (Child a p k ∷ h.0, inl (p, k, t, refl, s, h.1))

      module _ (f up : ℕ) (ss : List Shape) (l : Layout) (call : IsCalled c a p f up ss l) where
        by_call : (own : Bool) (d : Effect) → own ≡ is_own ks l.entry d → IsEffectOf c (Body f) d
            → fact_along (edge.Called (entry c a)) own d ≡ Some g → IsDone c g
        by_call true (effect.Stores x) z h e = absurd (none-some g e)
        by_call false (effect.Stores x) z h e = led a (effect.Stores x) g ia e
            (called_effect c (Does c) Stored a p f up x x ss l call
            (inl (
              refl,
              λ m. not_true_and_false (owns ks l.entry x) (in_own c kept ks are_own f l call.layout x m)
                  (sym z),
            )) h)
        by_call true (effect.Loads x) z h e = absurd (none-some g e)
        by_call false (effect.Loads x) z h e = led a (effect.Loads x) g ia e
            (called_effect c (Does c) Loaded a p f up x x ss l call
            (inl (
              refl,
              λ m. not_true_and_false (owns ks l.entry x) (in_own c kept ks are_own f l call.layout x m)
                  (sym z),
            )) h)
        by_call own effect.Stops z h e = led a effect.Stops g ia e
            (Body f ∷ h.0, inr (p, f, up, ss, l, refl, call, h.1))

        by_pass : (k y x : ℕ) (own : Bool) (d : Effect) → IsNumber l k y → IsActual l ss k x → IsEffectOf c (Body f) d
            → fact_along (edge.Passed (entry c a) y x) own d ≡ Some g → IsDone c g
        by_pass k y x own (effect.Stores w) num act h e = go (w == y) refl e
          where
            go : (b : Bool) → (w == y) ≡ b → (if b then Some (fact (entry c a) (effect.Stores x)) else None) ≡ Some g
                → IsDone c g
            go true z e = led a (effect.Stores x) g ia e
                (called_effect c (Does c) Stored a p f up x w ss l call (inr (
                  k,
                  num
                      ∙ ap Some (sym (eqb-true w y z)),
                  act,
                )) h)
            go false z e = absurd (none-some g e)
        by_pass k y x own (effect.Loads w) num act h e = go (w == y) refl e
          where
            go : (b : Bool) → (w == y) ≡ b → (if b then Some (fact (entry c a) (effect.Loads x)) else None) ≡ Some g
                → IsDone c g
            go true z e = led a (effect.Loads x) g ia e
                (called_effect c (Does c) Loaded a p f up x w ss l call (inr (
                  k,
                  num
                      ∙ ap Some (sym (eqb-true w y z)),
                  act,
                )) h)
            go false z e = absurd (none-some g e)
        by_pass k y x own effect.Stops num act h e = absurd (none-some g e)

    module _ (rows : List (List Edge)) (edges : AreEdges c rows) where
      abbrev acts : List Bool
      acts = edges.0

      there : HasEdges c acts (length c.instrs) rows
      there = edges.2

      pub led_along : (f g : Fact) (e : Edge) → HasEdge rows f.area e
          → fact_along e (is_own ks f.area f.effect) f.effect ≡ Some g → IsDone c f → IsDone c g
      led_along f g e has w (b, ib, at, h) = go (there.only f.area e has)
        where
          own : Bool
          own = is_own ks f.area f.effect

          as_edge : (x : Edge) → e ≡ x → fact_along x own f.effect ≡ Some g
          as_edge x s = ap (λ z. fact_along z own f.effect) (sym s) ∙ w

          go : (p : ℕ) × EdgeAt c acts p f.area e → IsDone c g
          go (p, inr (a, j, t, ia, st, (m, s))) =
              let child : IsArea c (Child a p j) = (ia, st.0, (t, st.1)) in
              let same : b ≡ Child a p j = one_area b (Child a p j) ib child (sym at ∙ m
              ∙ sym (ap entry_of_child st.1)) in
              by_start a ia p g j t own f.effect st (subst (λ (z : Area). IsEffectOf c z f.effect) same h)
              (as_edge (edge.Started (entry c a) t.index) s)
          go (p, inl (a, d, up, ss, l, ia, call, (m, inl s))) =
              let same : b ≡ Body d = one_area b (Body d) ib (l, call.layout) (sym at ∙ m
              ∙ sym (ap entry_of_layout call.layout)) in
              by_call a ia p g d up ss l call own f.effect (ap (λ n. is_own ks n f.effect) m)
              (subst (λ (z : Area). IsEffectOf c z f.effect) same h) (as_edge (edge.Called (entry c a)) s)
          go (p, inl (a, d, up, ss, l, ia, call, (m, inr (_, (j, y, x, num, act, s))))) =
              let same : b ≡ Body d = one_area b (Body d) ib (l, call.layout) (sym at ∙ m
              ∙ sym (ap entry_of_layout call.layout)) in
              by_pass a ia p g d up ss l call j y x own f.effect num act
              (subst (λ (z : Area). IsEffectOf c z f.effect) same h)
              (as_edge (edge.Passed (entry c a) y x) s)

      module _ (k : Asked) (follows : FollowsEdges rows k) (old new : List Fact)
          (start : Tells [] old (OwnBefore c k (length c.instrs))) (closes : Closes k rows ks old new) where
        all_true : (n : ℕ) (g : Fact) → FollowsBy k rows ks old n g → IsDone c g
        all_true zero g h = first_true k old start g h
        all_true (suc n) g (f, h, (e, has, (w, q))) = led_along f g e has w (all_true n f h)

        sound : (a : Area) (d : Effect) → IsArea c a → has_fact new (fact (entry c a) d) ≡ true → IsEffectOf c a d
        sound a d ia h =
            let w = closes.only (fact (entry c a) d) h in
            let (b, ib, at, does) = all_true w.0 (fact (entry c a) d) w.1 in
            subst (λ (z : Area). IsEffectOf c z d) (one_area b a ib ia (sym at)) does

        -- ---- none is left out

        abbrev effect_by : EffectKind → ℕ → Effect
        effect_by Stored x = effect.Stores x
        effect_by Loaded x = effect.Loads x

        abbrev HasFactOf : Area → Effect → Type 0
        HasFactOf a d = IsArea c a → is_asked k (entry c a) d ≡ true → has_fact new (fact (entry c a) d) ≡ true

        own_there : (a : Area) (p : ℕ) (d : Effect) → IsArea c a → is_asked k (entry c a) d ≡ true → IsInCodeOf c a p
            → p < length c.instrs → DoesAt c a p d → has_fact new (fact (entry c a) d) ≡ true
        own_there a p d ia q w l h = closes.kept (fact (entry c a) d)
            (start.has (fact (entry c a) d) (p, l, ((a, (ia, w), refl, h), q)))

        stored_within : (a : Area) (p x : ℕ) (ss : List Shape) → IsMember x (stored_by c a (instr_at c p) ss)
            → p < length c.instrs
        stored_within a p x ss h = go (instr_at c p) refl h
          where
            go : (o : Option Instr) → instr_at c p ≡ o → IsMember x (stored_by c a o ss) → p < length c.instrs
            go None e h = absurd h
            go (Some o) e h = slice_get_within c.instrs p o e

        loaded_within : (a : Area) (p x : ℕ) (ss : List Shape) → IsMember x (loaded_by c a (instr_at c p) ss)
            → p < length c.instrs
        loaded_within a p x ss h = go (instr_at c p) refl h
          where
            go : (o : Option Instr) → instr_at c p ≡ o → IsMember x (loaded_by c a o ss) → p < length c.instrs
            go None e h = absurd h
            go (Some o) e h = slice_get_within c.instrs p o e

        stop_within : (p : ℕ) → is_stop (instr_at c p) ≡ true → p < length c.instrs
        stop_within p h = go (instr_at c p) refl h
          where
            go : (o : Option Instr) → instr_at c p ≡ o → is_stop o ≡ true → p < length c.instrs
            go None e h = absurd (cc h)
            go (Some o) e h = slice_get_within c.instrs p o e

        table_within : (p k : ℕ) (t : ChildTable) → child_at c p k ≡ Some t → p < length c.instrs
        table_within p k t e = go (instr_at c p) refl (name_of (table_named (instr_at c p)) k c.forks t e).1
          where
            n : ℕ
            n = (name_of (table_named (instr_at c p)) k c.forks t e).0

            go : (o : Option Instr) → instr_at c p ≡ o → table_named o ≡ Some n → p < length c.instrs
            go None e h = absurd (none-some n h)
            go (Some o) e h = slice_get_within c.instrs p o e

        call_within : (p f up : ℕ) → instr_at c p ≡ Some (i.Call f up) → p < length c.instrs
        call_within p f up e = slice_get_within c.instrs p (i.Call f up) e

        -- the flag of the area is set
        abbrev IsFlagged : Area → Type 0
        IsFlagged a = IsArea c a → flag_at acts (entry c a) ≡ true

        does_flagged : (u : EffectKind) (a : Area) (x : ℕ) → Does c u a x → IsFlagged a
        does_flagged Stored a x (inl (p, ss, r, h)) ia = edges.1 a p (stored_within a p x ss h) (ia, passes c a p ss r)
            (inl (Stored, ss, x, h))
        does_flagged Loaded a x (inl (p, ss, r, h)) ia = edges.1 a p (loaded_within a p x ss h) (ia, passes c a p ss r)
            (inl (Loaded, ss, x, h))
        does_flagged u a x (inr (p, j, t, s, h)) ia = edges.1 a p (table_within p j t s.1) (ia, s.0)
            (inr (inl (j, t, s.1)))

        starts_flagged : (a : Area) (p j : ℕ) (t : ChildTable) → IsStarted c a p j t → IsFlagged a
        starts_flagged a p j t s ia = edges.1 a p (table_within p j t s.1) (ia, s.0) (inr (inl (j, t, s.1)))

        calls_flagged : (a : Area) (p f up : ℕ) (ss : List Shape) (l : Layout) → IsCalled c a p f up ss l → IsFlagged a
        calls_flagged a p f up ss l call ia = edges.1 a p (call_within p f up call.call)
            (ia, passes c a p ss call.reached) (inr (inr (f, up, call.call)))

        does_has : (u : EffectKind) (a : Area) (x : ℕ) → Does c u a x → HasFactOf a (effect_by u x)
        does_has Stored a x (inl (p, ss, r, h)) ia q = own_there a p (effect.Stores x) ia q (passes c a p ss r)
            (stored_within a p x ss h) (inl (ss, r, h))
        does_has Stored a x (inr (p, j, t, s, h)) ia q = own_there a p (effect.Stores x) ia q s.0
            (table_within p j t s.1) (inr (j, t, s, h))
        does_has Loaded a x (inl (p, ss, r, h)) ia q = own_there a p (effect.Loads x) ia q (passes c a p ss r)
            (loaded_within a p x ss h) (inl (ss, r, h))
        does_has Loaded a x (inr (p, j, t, s, h)) ia q = own_there a p (effect.Loads x) ia q s.0
            (table_within p j t s.1) (inr (j, t, s, h))

        stop_has : (a : Area) → HasStop c a → HasFactOf a effect.Stops
        stop_has a (p, ss, r, h) ia q = own_there a p effect.Stops ia q (passes c a p ss r) (stop_within p h)
            (inl (ss, r, h))

        -- along an edge
        goes : (p m n : ℕ) (e : Edge) (d x : Effect) → p < length c.instrs → EdgeAt c acts p m e → is_asked k n x ≡ true
            → has_fact new (fact m d) ≡ true
            → fact_along e (is_own ks m d) d ≡ Some (fact n x) → has_fact new (fact n x) ≡ true
        goes p m n e d x l w q h s = closes.closed (fact m d) (fact n x) h (e, there.has p m e l w, (s, q))

        -- what leads to what is asked about is asked about
        followed : (p m n : ℕ) (e : Edge) (own : Bool) (d x : Effect) → p < length c.instrs → EdgeAt c acts p m e
            → fact_along e own d ≡ Some (fact n x) → is_asked k n x ≡ true → is_asked k m d ≡ true
        followed p m n e own d x l w s q = follows m e (there.has p m e l w) own d (fact n x) s q

        from_child : (a : Area) (p j : ℕ) (t : ChildTable) (d : Effect) → IsStarted c a p j t
            → ((own : Bool) → fact_along (edge.Started (entry c a) t.index) own d ≡ Some (fact (entry c a) d))
            → HasFactOf (Child a p j) d → HasFactOf a d
        from_child a p j t d s z h ia q =
            let e : Edge = edge.Started (entry c a) t.index in
            let l = table_within p j t s.1 in
            let w : EdgeAt c acts p t.entry e = inr (a, j, t, ia, s, (refl, refl)) in
            let asks = subst (λ n. is_asked k n d ≡ true) (sym (ap entry_of_child s.1))
            (followed p t.entry (entry c a) e true d d l w (z true) q) in
            goes p t.entry (entry c a) e d d l w q
            (subst (λ n. has_fact new (fact n d) ≡ true) (ap entry_of_child s.1) (h (ia, s.0, (t, s.1)) asks))
            (z (is_own ks t.entry d))

        no_index : (o : Option ℕ) (x : ℕ) → CountsAsEffect Loaded o x → is_index o x ≡ false
        no_index None x h = refl
        no_index (Some y) x h = go (x == y) refl
          where
            go : (b : Bool) → (x == y) ≡ b → b ≡ false
            go true e = absurd (h (eqb-true x y e))
            go false e = refl

        child_has : (u : EffectKind) (a : Area) (p j x : ℕ) (t : ChildTable) → IsStarted c a p j t
            → CountsAsEffect u t.index x
            → HasFactOf (Child a p j) (effect_by u x) → HasFactOf a (effect_by u x)
        child_has Stored a p j x t s z h = from_child a p j t (effect.Stores x) s (λ own. refl) h
        child_has Loaded a p j x t s z h = from_child a p j t (effect.Loads x) s
            (λ own. ap (λ (b : Bool). if b then None else Some (fact (entry c a) (effect.Loads x)))
            (no_index t.index x z)) h

        module _ (a : Area) (p f up : ℕ) (ss : List Shape) (l : Layout) (call : IsCalled c a p f up ss l) where
          at_entry : (d : Effect) → HasFactOf (Body f) d → is_asked k l.entry d ≡ true
              → has_fact new (fact l.entry d) ≡ true
          at_entry d h q = subst (λ n. has_fact new (fact n d) ≡ true) (ap entry_of_layout call.layout)
              (h (l, call.layout) (subst (λ n. is_asked k n d ≡ true) (sym (ap entry_of_layout call.layout)) q))

          outer : (x : ℕ) → (IsMember x l.variables → ⊥) → owns ks l.entry x ≡ false
          outer x never = go (owns ks l.entry x) refl
            where
              go : (b : Bool) → owns ks l.entry x ≡ b → b ≡ false
              go true e = absurd (never (own_in c kept ks are_own f l call.layout x e))
              go false e = refl

          from_called : (d : Effect)
              → fact_along (edge.Called (entry c a)) (is_own ks l.entry d) d ≡ Some (fact (entry c a) d)
              → HasFactOf (Body f) d
              → HasFactOf a d
          from_called d z h ia q =
              let e : Edge = edge.Called (entry c a) in
              let b = call_within p f up call.call in
              let w : EdgeAt c acts p l.entry e = inl (a, f, up, ss, l, ia, call, (refl, inl refl)) in
              let asks = followed p l.entry (entry c a) e (is_own ks l.entry d) d d b w z q in
              goes p l.entry (entry c a) e d d b w q (at_entry d h asks) z

          from_passed : (j y x : ℕ) (d o : Effect) → IsNumber l j y → IsActual l ss j x
              → ((own : Bool) → fact_along (edge.Passed (entry c a) y x) own d ≡ Some (fact (entry c a) o))
              → IsFlagged (Body f) → HasFactOf (Body f) d → HasFactOf a o
          from_passed j y x d o num act z flagged h ia q =
              let e : Edge = edge.Passed (entry c a) y x in
              let b = call_within p f up call.call in
              let on = subst (λ n. flag_at acts n ≡ true) (ap entry_of_layout call.layout) (flagged (l, call.layout)) in
              let w : EdgeAt c acts p l.entry e = inl
              (a, f, up, ss, l, ia, call, (refl, inr (on, (j, y, x, num, act, refl)))) in
              let asks = followed p l.entry (entry c a) e true d o b w (z true) q in
              goes p l.entry (entry c a) e d o b w q (at_entry d h asks) (z (is_own ks l.entry d))

          if_same : (y : ℕ) (g : Fact) → ◌≡◌ {A = Option Fact} (if y == y then Some g else None) (Some g)
          if_same y g = ap (λ (b : Bool). if b then Some g else None) (eq-eqb y y refl)

          called_has : (u : EffectKind) (x y : ℕ) → Becomes l ss y x → IsFlagged (Body f)
              → HasFactOf (Body f) (effect_by u y) → HasFactOf a (effect_by u x)
          called_has Stored x y (inl (s, never)) on h =
              subst (λ z. HasFactOf a (effect.Stores z)) (sym s)
              (from_called (effect.Stores y) (ap
              (λ (b : Bool). if b then None else Some (fact (entry c a) (effect.Stores y))) (outer y never)) h)
          called_has Stored x y (inr (j, num, act)) on h = from_passed j y x (effect.Stores y) (effect.Stores x) num act
              (λ own. if_same y (fact (entry c a) (effect.Stores x))) on h
          called_has Loaded x y (inl (s, never)) on h =
              subst (λ z. HasFactOf a (effect.Loads z)) (sym s)
              (from_called (effect.Loads y) (ap
              (λ (b : Bool). if b then None else Some (fact (entry c a) (effect.Loads y))) (outer y never)) h)
          called_has Loaded x y (inr (j, num, act)) on h = from_passed j y x (effect.Loads y) (effect.Loads x) num act
              (λ own. if_same y (fact (entry c a) (effect.Loads x))) on h

        effect_has : (u : EffectKind) (a : Area) (x : ℕ) → IsEffect c (Does c) u a x → HasFactOf a (effect_by u x)
        effect_has u a x e =
            (effects_within c (Does c) (λ v b y. IsFlagged b × HasFactOf b (effect_by v y))
            (λ v b y w. (does_flagged v b y w, does_has v b y w))
            (λ v b p j y t s z h. (starts_flagged b p j t s, child_has v b p j y t s z h.1))
            (λ v b p f up z y ss l call m h.
            (calls_flagged b p f up ss l call, called_has b p f up ss l call v z y m h.0 h.1)) u a x e).1

        comes_has : (a : Area) → ComesToStop c a → HasFactOf a effect.Stops
        comes_has a (bs, h) =
            stops_within c (Does c) (HasStop c) (λ b. HasFactOf b effect.Stops) stop_has
            (λ b p j t s z. from_child b p j t effect.Stops s (λ own. refl) z)
            (λ b p f up ss l call z. from_called b p f up ss l call effect.Stops refl z) bs a h

        complete : (a : Area) (d : Effect) → IsArea c a → is_asked k (entry c a) d ≡ true → IsEffectOf c a d
            → has_fact new (fact (entry c a) d) ≡ true
        complete a (effect.Stores x) ia q h = effect_has Stored a x h ia q
        complete a (effect.Loads x) ia q h = effect_has Loaded a x h ia q
        complete a effect.Stops ia q h = comes_has a h ia q

        pub are_facts : AreFacts c k new
        are_facts a d ia q = (sound a d ia, complete a d ia q)

    pub facts_closed : (k : Asked) (rows : List (List Edge)) (none old new : List Fact) → FollowsEdges rows k
        → AreEdges c rows → none ≡ [] → Tells none old (OwnBefore c k (length c.instrs)) → Closes k rows ks old new
        → AreFacts c k new
    facts_closed k rows none old new follows edges e start closes = are_facts rows edges k follows old new
        (subst (λ (z : List Fact). Tells z old (OwnBefore c k (length c.instrs))) e start) closes
