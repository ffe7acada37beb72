-- Facts lead to others along edges; each is followed once, and then nothing is left.
use Rattle.std.proofs.Common.{◌≡◌, ◌⊎◌, inl, inr, ⊎_elim, refl, ap, sym, ◌∙◌, subst, ℕ, zero, suc, ◌+◌, ◌<◌, ◌==◌, List}
use Rattle.std.proofs.Common.{[], ◌∷◌, length, take, Option, Some, None, Bool, true, ◌||◌, ◌&&◌, cond, arith, eqb-true}
use Rattle.std.specs.Prelude.{slice_get, ◌↔◌}
use Rattle.std.specs.Ordering.{is_eq}
use Rattle.std.proofs.lemmas.Bool.{eq-eqb, and_from, and_parts, or_cases, or_left, or_right}
use Rattle.std.proofs.lemmas.Option.{slice_get_within, none-some, same_Some}
use Rattle.sp_base.proofs.Facts.{below_or_last}
use Rattle.sp_code.specs.declared.code.Layout.{Layout}
use Rattle.sp_code.specs.declared.code.Parts.{Parts}
use Rattle.sp_verify_effects.specs.declared.asked_areas.Asked.{Asked}
use Rattle.sp_verify_effects.specs.declared.edges.Edge.{Edge}
use Rattle.sp_verify_effects.specs.declared.facts.Fact.{Fact}
use Rattle.sp_verify_effects.specs.declared.facts.Effect.{Effect}
use Rattle.sp_verify_effects.specs.Facts.{has_fact, with_fact, pair_cmp, has_pair, Tells}
use Rattle.sp_verify_effects.specs.AskedAreas.{is_asked}
use Rattle.sp_verify_effects.specs.FactClosure.{AlongOne, Closes, ClosesTo, FollowsFrom, FactLeads, GoesAlong}
use Rattle.sp_verify_effects.specs.Variables.{AddsPairs, AreOwn, IsOwnIn, IsOwnOf}
use Rattle.sp_verify_effects.proofs.FactSets.{told_place, place_told, told_on, tells_as, tells_then, tells_one}
use Rattle.sp_verify_effects.proofs.FactSets.{pair_put}
use Rattle.sp_verify_effects.proofs.Owns.{in_taken, taken_in}

-- ---- pairs

pair_is : (p q : ℕ × ℕ) → ((p.0 == q.0) && (p.1 == q.1)) ≡ true → (p.0 ≡ q.0) × (p.1 ≡ q.1)
pair_is p q h = let b = and_parts (p.0 == q.0) (p.1 == q.1) h in (eqb-true p.0 q.0 b.0, eqb-true p.1 q.1 b.1)

pub pair_more : (old now new : List (ℕ × ℕ)) (m i y : ℕ) (xs : List ℕ) → slice_get xs i ≡ Some y
    → AddsPairs old now (IsOwnOf m (take i xs))
    → ((q : ℕ × ℕ) → has_pair new q ≡ cond (is_eq (pair_cmp (m, y) q)) true (has_pair now q))
    → AddsPairs old new (IsOwnOf m (take (i + 1) xs))
pair_more old now new m i y xs e h u q = (to, from)
  where
    put : has_pair new q ≡ (((q.0 == m) && (q.1 == y)) || has_pair now q)
    put = pair_put new now (m, y) u q.0 q.1

    to : has_pair new q ≡ true → (has_pair old q ≡ true) ⊎ IsOwnOf m (take (i + 1) xs) q
    to w = ⊎_elim (λ z. let b = pair_is q (m, y) z in inr (b.0, taken_in xs i q.1 y e (inr b.1)))
        (λ z. ⊎_elim (λ o. inl o) (λ o. inr (o.0, taken_in xs i q.1 y e (inl o.1))) ((h q).0 z))
        (or_cases ((q.0 == m) && (q.1 == y)) (has_pair now q) (sym put ∙ w))

    now_new : has_pair now q ≡ true → has_pair new q ≡ true
    now_new w = put ∙ or_right ((q.0 == m) && (q.1 == y)) (has_pair now q) w

    from : (has_pair old q ≡ true) ⊎ IsOwnOf m (take (i + 1) xs) q → has_pair new q ≡ true
    from (inl o) = now_new ((h q).1 (inl o))
    from (inr o) = ⊎_elim (λ z. now_new ((h q).1 (inr (o.0, z)))) (λ z. put
        ∙ or_left ((q.0 == m) && (q.1 == y)) (has_pair now q)
        (and_from (q.0 == m) (q.1 == y) (eq-eqb q.0 m o.0) (eq-eqb q.1 y z))) (in_taken xs i q.1 y e o.1)

-- those of the first layouts
abbrev pub OwnFirst : ℕ → List Layout → ℕ × ℕ → Type 0
OwnFirst n ls q = (j : ℕ) × (l : Layout) × (j < n) × (slice_get ls j ≡ Some l) × IsOwnOf l.entry l.variables q

abbrev pub AreFirst : ℕ → List Layout → List (ℕ × ℕ) → Type 0
AreFirst n ls ks = (q : ℕ × ℕ) → (has_pair ks q ≡ true) ↔ OwnFirst n ls q

pub none_first : (ls : List Layout) (ks : List (ℕ × ℕ)) → ks ≡ [] → AreFirst 0 ls ks
none_first ls ks e q = (
  λ w. absurd (let z = sym (ap (λ (x : List (ℕ × ℕ)). has_pair x q) e)
      ∙ w in cc (z)),
  λ w. absurd (let l : w.0 < 0 = w.2 in omega (arith, l)),
)

pub first_more : (ls : List Layout) (j : ℕ) (l : Layout) (old new : List (ℕ × ℕ)) → slice_get ls j ≡ Some l
    → AreFirst j ls old → AddsPairs old new (IsOwnOf l.entry l.variables) → AreFirst (j + 1) ls new
first_more ls j l old new e h u q = (
  λ w. ⊎_elim (λ o. let (k, m, below, there, has) = (h q).0 o in (k, m, omega (arith, below), there, has))
      (λ o. (j, l, omega arith, e, o)) ((u q).0 w),
  λ (k, m, below, there, has). ⊎_elim (λ less. (u q).1 (inl ((h q).1 (k, m, less, there, has))))
      (λ s. (u q).1 (inr (subst (λ (z : Layout). IsOwnOf z.entry z.variables q)
      (same_Some m l (sym there ∙ ap (slice_get ls) s ∙ e)) has))) (below_or_last k j below),
)

pub first_all : (c : Parts) (ls : List Layout) (n : ℕ) (ks : List (ℕ × ℕ)) → ls ≡ c.layouts → n ≡ length ls
    → AreFirst n ls ks → AreOwn c ks
first_all c ls n ks s e h = subst (λ (xs : List Layout). (q : ℕ × ℕ) → (has_pair ks q ≡ true) ↔ IsOwnIn xs q) s all
  where
    all : (q : ℕ × ℕ) → (has_pair ks q ≡ true) ↔ IsOwnIn ls q
    all q = (
      λ w. let (j, l, _, there, has) = (h q).0 w in (j, l, there, has),
      λ (j, l, there, has).
          (h q).1 (j, l, (let m = slice_get_within ls j l there in omega (arith, m, e)), there, has),
    )

-- ---- along edges

pub carried_told : (fs : List Fact) (k : Asked) (o : Option Fact) (g : Fact) → o ≡ Some g
    → is_asked k g.area g.effect ≡ true
    → Tells fs (with_fact fs g) (λ f. (o ≡ Some f) × (is_asked k f.area f.effect ≡ true))
carried_told fs k o g e q = tells_as fs (with_fact fs g) (λ f. f ≡ g)
    (λ f. (o ≡ Some f) × (is_asked k f.area f.effect ≡ true))
    (λ f s. (e ∙ ap Some (sym s), ap (λ (z : Fact). is_asked k z.area z.effect) s ∙ q))
    (λ f s. same_Some f g (sym s.0 ∙ e))
    (tells_one fs g)

pub not_carried : (fs : List Fact) (k : Asked) (o : Option Fact)
    → ((g : Fact) → o ≡ Some g → is_asked k g.area g.effect ≡ true → ⊥)
    → Tells fs fs (λ f. (o ≡ Some f) × (is_asked k f.area f.effect ≡ true))
not_carried fs k o h = record {
  extends = λ i f e. e;
  has = λ f w. absurd (h f w.0 w.1);
  only = λ f w. inl w;
}

pub along_more : (a b x : List Fact) (q : Asked) (row : List Edge) (own : Bool) (d : Effect) (k : ℕ) (e : Edge)
    → slice_get row k ≡ Some e → Tells a b (AlongOne q row own d k) → Tells b x (GoesAlong q e own d)
    → Tells a x (AlongOne q row own d (k + 1))
along_more a b x q row own d k e h u v = tells_as a x (λ g. AlongOne q row own d k g
    ⊎ GoesAlong q e own d g) (AlongOne q row own d (k + 1)) to from
    (tells_then a b x (AlongOne q row own d k) (GoesAlong q e own d) u v)
  where
    to : (g : Fact) → AlongOne q row own d k g ⊎ GoesAlong q e own d g → AlongOne q row own d (k + 1) g
    to g (inl (j, f, below, there, along)) = (j, f, omega (arith, below), there, along)
    to g (inr w) = (k, e, omega arith, h, w)

    from : (g : Fact) → AlongOne q row own d (k + 1) g → AlongOne q row own d k g ⊎ GoesAlong q e own d g
    from g (j, f, below, there, along) =
        ⊎_elim (λ less. inl (j, f, less, there, along))
        (λ s. inr (subst (λ (y : Edge). GoesAlong q y own d g) (same_Some f e (sym there ∙ ap (slice_get row) s
        ∙ h)) along)) (below_or_last j k below)

module _ (asked : Asked) (rows : List (List Edge)) (own : List (ℕ × ℕ)) where
  -- ---- until nothing is left

  there : (fs : List Fact) (i j : ℕ) (f : Fact) → slice_get fs i ≡ Some f → j < i → (g : Fact)
      × (slice_get fs j ≡ Some g)
  there [] i j f e l = absurd (none-some f e)
  there (x ∷ fs) zero j f e l = absurd (omega (arith, l))
  there (x ∷ fs) (suc i) zero f e l = (x, refl)
  there (x ∷ fs) (suc i) (suc j) f e l = there fs i j f e (omega (arith, l))

  pub closes_more : (old now new : List Fact) (i : ℕ) (f : Fact) → slice_get now i ≡ Some f
      → ClosesTo asked rows own old now i → Tells now new (FactLeads asked rows own f)
      → ClosesTo asked rows own old new (i + 1)
  closes_more old now new i f e h t = record {
    kept = λ g w. told_on now new (FactLeads asked rows own f) t g (h.kept g w);
    done = done;
    only = only;
  }
    where
      done : (j : ℕ) (x g : Fact) → j < i + 1 → slice_get new j ≡ Some x → FactLeads asked rows own x g
          → has_fact new g ≡ true
      done j x g l s w = ⊎_elim (λ z. let r = there now i j f e z in let q : r.0 ≡ x = same_Some r.0 x
          (sym (t.extends j r.0 r.1) ∙ s) in told_on now new (FactLeads asked rows own f) t g
          (h.done j x g z (r.1 ∙ ap Some q) w))
          (λ z. let q : f ≡ x = same_Some f x (sym (t.extends i f e) ∙ ap (slice_get new) (sym z)
          ∙ s) in t.has g (subst (λ y. FactLeads asked rows own y g) (sym q) w)) (below_or_last j i l)

      only : (g : Fact) → has_fact new g ≡ true → FollowsFrom asked rows own old g
      only g w = ⊎_elim (λ z. h.only g z) (λ z. let r = h.only f (place_told now i f e) in (suc r.0, (f, r.1, z)))
          (t.only g w)

  pub closed_now : (old new : List Fact) (i : ℕ) → slice_get new i ≡ None → ClosesTo asked rows own old new i
      → Closes asked rows own old new
  closed_now old new i e h = record { kept = h.kept; closed = closed; only = h.only }
    where
      inside : (fs : List Fact) (k j : ℕ) (f : Fact) → slice_get fs k ≡ None → slice_get fs j ≡ Some f → j < k
      inside [] k j f n s = absurd (none-some f s)
      inside (x ∷ fs) zero j f n s = absurd (none-some x (sym n))
      inside (x ∷ fs) (suc k) zero f n s = omega arith
      inside (x ∷ fs) (suc k) (suc j) f n s = let l = inside fs k j f n s in omega (arith, l)

      closed : (f g : Fact) → has_fact new f ≡ true → FactLeads asked rows own f g → has_fact new g ≡ true
      closed f g w l = let r = told_place new f w in h.done r.0 f g (inside new i r.0 f e r.1) r.1 l
