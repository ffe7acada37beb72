-- Facts are told one after the other; sets of them are told the same.
use Rattle.std.proofs.Common.{◌≡◌, ◌≢◌, ◌⊎◌, inl, inr, ⊎_elim, refl, ap, sym, ◌∙◌, subst, ℕ, zero, suc, ◌<◌, ◌==◌, List}
use Rattle.std.proofs.Common.{[], ◌∷◌, ◌++◌, length, Option, Some, Bool, true, false, ◌||◌, ◌&&◌, if◌then◌else◌, cond}
use Rattle.std.proofs.Common.{arith, eqb-true}
use Rattle.std.specs.Prelude.{slice_get, slice_set}
use Rattle.std.specs.BTreeSet.{BTreeSet}
use Rattle.std.specs.Ordering.{nat_cmp, is_eq}
use Rattle.std.proofs.lemmas.Bool.{eq-eqb, and_from, and_parts, cases_eq, false_from_ne_true, or_cases, or_left}
use Rattle.std.proofs.lemmas.Bool.{or_right}
use Rattle.std.proofs.lemmas.Bool.Decides.{nat_tests}
use Rattle.std.proofs.lemmas.List.Folds.{list_any-append}
use Rattle.std.proofs.lemmas.List.{length-set}
use Rattle.std.proofs.lemmas.Option.{slice_get_within, none-some, same_Some}
use Rattle.sp_base.proofs.Facts.{get_beside_set, get_where_set, tie_of_both}
use Rattle.sp_verify_rules.specs.Areas.{on_option}
use Rattle.sp_verify_effects.specs.declared.facts.Fact.{Fact}
use Rattle.sp_verify_effects.specs.declared.facts.Index.{Index}
use Rattle.sp_verify_effects.specs.declared.facts.Sets.{Sets}
use Rattle.sp_verify_effects.specs.declared.facts.Effect.{Effect}
use Rattle.sp_verify_effects.specs.declared.facts.Effect.TheVariants as effect
use Rattle.sp_verify_effects.specs.Facts.{same_effect, same_fact, has_fact, with_fact, pair_cmp, has_pair, has_number}
use Rattle.sp_verify_effects.specs.Facts.{in_sets}
use Rattle.sp_verify_effects.specs.Facts.{index_has}
use Rattle.sp_verify_effects.specs.Facts.{sets_have, AreIndexed, Tells}

-- ---- lists

-- ---- equal facts

pub effect_is : (d e : Effect) → same_effect d e ≡ true → d ≡ e
effect_is (effect.Stores x) (effect.Stores y) h = ap effect.Stores (eqb-true x y h)
effect_is (effect.Loads x) (effect.Loads y) h = ap effect.Loads (eqb-true x y h)
effect_is effect.Stops effect.Stops h = refl
effect_is (effect.Stores x) (effect.Loads y) h = absurd (cc h)
effect_is (effect.Stores x) effect.Stops h = absurd (cc h)
effect_is (effect.Loads x) (effect.Stores y) h = absurd (cc h)
effect_is (effect.Loads x) effect.Stops h = absurd (cc h)
effect_is effect.Stops (effect.Stores y) h = absurd (cc h)
effect_is effect.Stops (effect.Loads y) h = absurd (cc h)

effect_self : (d : Effect) → same_effect d d ≡ true
effect_self (effect.Stores x) = eq-eqb x x refl
effect_self (effect.Loads x) = eq-eqb x x refl
effect_self effect.Stops = refl

pub same_is : (f g : Fact) → same_fact f g ≡ true → f ≡ g
same_is f g h =
    let b = and_parts (f.area == g.area) (same_effect f.effect g.effect) h in
    let p : f.area ≡ g.area = eqb-true f.area g.area b.0 in
    let d : f.effect ≡ g.effect = effect_is f.effect g.effect b.1 in
    λ i. record { area = p i; effect = d i }

pub same_self : (f : Fact) → same_fact f f ≡ true
same_self f = and_from (f.area == f.area) (same_effect f.effect f.effect) (eq-eqb f.area f.area refl)
    (effect_self f.effect)

-- ---- lists of facts

-- what is told stands at a place, and what stands there is told
pub told_place : (fs : List Fact) (f : Fact) → has_fact fs f ≡ true → (i : ℕ) × (slice_get fs i ≡ Some f)
told_place [] f h = absurd (cc h)
told_place (g ∷ fs) f h = ⊎_elim (λ e. (0, ap Some (sym (same_is f g e))))
    (λ e. let r = told_place fs f e in (suc r.0, r.1)) (or_cases (same_fact f g) (has_fact fs f) h)

pub place_told : (fs : List Fact) (i : ℕ) (f : Fact) → slice_get fs i ≡ Some f → has_fact fs f ≡ true
place_told [] i f e = absurd (none-some f e)
place_told (g ∷ fs) zero f e = or_left (same_fact f g) (has_fact fs f)
    (subst (λ x. same_fact f x ≡ true) (sym (same_Some g f e)) (same_self f))
place_told (g ∷ fs) (suc i) f e = or_right (same_fact f g) (has_fact fs f) (place_told fs i f e)

or_none : (a b : Bool) → (a || (b || false)) ≡ (a || b)
or_none true b = refl
or_none false true = refl
or_none false false = refl

pub told_last : (fs : List Fact) (g f : Fact) → has_fact (fs ++ g ∷ []) f ≡ (has_fact fs f || same_fact f g)
told_last fs g f = list_any-append (same_fact f) fs (g ∷ []) ∙ or_none (has_fact fs f) (same_fact f g)

-- ---- sets

nat_same : (a b : ℕ) → is_eq (nat_cmp a b) ≡ (b == a)
nat_same a b = grind (arith, nat_tests)

pair_same : (p q : ℕ × ℕ) → is_eq (pair_cmp p q) ≡ ((q.0 == p.0) && (q.1 == p.1))
pair_same p q =
    tie_of_both (nat_cmp p.0 q.0) (nat_cmp p.1 q.1) ∙ ap (λ (x : Bool). x && is_eq (nat_cmp p.1 q.1)) (nat_same p.0 q.0)
    ∙ ap (λ (x : Bool). (q.0 == p.0) && x) (nat_same p.1 q.1)

cond_or : (a b : Bool) → cond a true b ≡ (a || b)
cond_or true b = refl
cond_or false b = refl

-- a set with one pair more
pub pair_put : (new old : List (ℕ × ℕ)) (k : ℕ × ℕ)
    → ((q : ℕ × ℕ) → has_pair new q ≡ cond (is_eq (pair_cmp k q)) true (has_pair old q))
    → (p x : ℕ) → has_pair new (p, x) ≡ (((p == k.0) && (x == k.1)) || has_pair old (p, x))
pair_put new old k h p x =
    h (p, x) ∙ ap (λ (b : Bool). cond b true (has_pair old (p, x))) (pair_same k (p, x))
    ∙ cond_or ((p == k.0) && (x == k.1)) (has_pair old (p, x))

number_put : (new old : List ℕ) (k : ℕ)
    → ((q : ℕ) → has_number new q ≡ cond (is_eq (nat_cmp k q)) true (has_number old q))
    → (p : ℕ) → has_number new p ≡ ((p == k) || has_number old p)
number_put new old k h p = h p ∙ ap (λ (b : Bool). cond b true (has_number old p)) (nat_same k p)
    ∙ cond_or (p == k) (has_number old p)

-- the sets of an area with one effect more
abbrev PutsIn : Sets → Sets → Effect → Type 0
PutsIn old new e = (d : Effect) → in_sets new d ≡ (same_effect d e || in_sets old d)

pub puts_stores : (old : Sets) (s : BTreeSet ℕ) (x : ℕ)
    → ((q : ℕ) → has_number s.keys q ≡ cond (is_eq (nat_cmp x q)) true (has_number old.stored.keys q))
    → PutsIn old (record { stored = s; loaded = old.loaded; stops = old.stops }) (effect.Stores x)
puts_stores old s x h (effect.Stores y) = number_put s.keys old.stored.keys x h y
puts_stores old s x h (effect.Loads y) = refl
puts_stores old s x h effect.Stops = refl

pub puts_loads : (old : Sets) (s : BTreeSet ℕ) (x : ℕ)
    → ((q : ℕ) → has_number s.keys q ≡ cond (is_eq (nat_cmp x q)) true (has_number old.loaded.keys q))
    → PutsIn old (record { stored = old.stored; loaded = s; stops = old.stops }) (effect.Loads x)
puts_loads old s x h (effect.Stores y) = refl
puts_loads old s x h (effect.Loads y) = number_put s.keys old.loaded.keys x h y
puts_loads old s x h effect.Stops = refl

pub adds_effect : (old new : Sets) (g e : Effect) → g ≡ e → PutsIn old new e → (d : Effect)
    → in_sets new d ≡ (same_effect d g || in_sets old d)
adds_effect old new g e s h d = h d ∙ ap (λ (x : Effect). same_effect d x || in_sets old d) (sym s)

-- one place is changed
pub noted_put : (areas : List Sets) (none old new : Sets) (g : Fact) → slice_get areas g.area ≡ Some old
    → PutsIn old new g.effect
    → (f : Fact) → sets_have (slice_set (slice_set areas g.area none) g.area new) f.area f.effect ≡ (same_fact f g
    || sets_have areas f.area f.effect)
noted_put areas none old new g at h f = ⊎_elim here there (cases_eq f.area g.area)
  where
    m : ℕ
    m = g.area

    middle : List Sets
    middle = slice_set areas m none

    inside : m < length middle
    inside = subst (λ n. m < n) (sym (length-set areas m none)) (slice_get_within areas m old at)

    of : Option Sets → Bool
    of o = on_option false o (λ s. in_sets s f.effect)

    now : f.area ≡ m → sets_have (slice_set middle m new) f.area f.effect ≡ in_sets new f.effect
    now q = ap (λ n. sets_have (slice_set middle m new) n f.effect) q
        ∙ ap (λ (o : Option Sets). on_option false o (λ s. in_sets s f.effect)) (get_where_set middle m new inside)

    was : f.area ≡ m → sets_have areas f.area f.effect ≡ in_sets old f.effect
    was q = ap (λ n. sets_have areas n f.effect) q
        ∙ ap (λ (o : Option Sets). on_option false o (λ s. in_sets s f.effect)) at

    here : f.area ≡ m → sets_have (slice_set middle m new) f.area f.effect
        ≡ (same_fact f g || sets_have areas f.area f.effect)
    here q =
        now q ∙ h f.effect ∙ ap (λ (b : Bool). same_effect f.effect g.effect || b) (sym (was q)) ∙
        ap (λ (b : Bool). (b && same_effect f.effect g.effect)
        || sets_have areas f.area f.effect) (sym (eq-eqb f.area g.area q))

    there : f.area ≢ m → sets_have (slice_set middle m new) f.area f.effect
        ≡ (same_fact f g || sets_have areas f.area f.effect)
    there q =
        ap (λ (o : Option Sets). on_option false o (λ s. in_sets s f.effect))
        (get_beside_set middle m f.area new (λ s. q (sym s)) ∙ get_beside_set areas m f.area none (λ s. q (sym s))) ∙
        sym (ap (λ (b : Bool). (b && same_effect f.effect g.effect)
        || sets_have areas f.area f.effect) (false_from_ne_true (f.area == g.area) (λ s. q (eqb-true f.area g.area s))))

-- the list and the sets grow together
or_turned : (a b : Bool) → (a || b) ≡ (b || a)
or_turned true true = refl
or_turned true false = refl
or_turned false true = refl
or_turned false false = refl

pub indexed_more : (fs : List Fact) (old new : Index) (g : Fact) → AreIndexed fs old
    → ((f : Fact) → index_has new f.area f.effect ≡ (same_fact f g || index_has old f.area f.effect))
    → AreIndexed (fs ++ g ∷ []) new
indexed_more fs old new g h put f = put f ∙ or_turned (same_fact f g) (index_has old f.area f.effect)
    ∙ ap (λ (b : Bool). b || same_fact f g) (h f) ∙ sym (told_last fs g f)

-- ---- what is told more

pub tells_none : (fs : List Fact) (W : Fact → Type 0) → ((f : Fact) → W f → has_fact fs f ≡ true) → Tells fs fs W
tells_none fs W h = record { extends = λ i f e. e; has = h; only = λ f e. inl e }

pub tells_as : (a b : List Fact) (W V : Fact → Type 0) → ((f : Fact) → W f → V f) → ((f : Fact) → V f → W f)
    → Tells a b W → Tells a b V
tells_as a b W V to from t = record {
  extends = t.extends;
  has = λ f v. t.has f (from f v);
  only = λ f e. ⊎_elim
      (λ o. inl o) (λ w. inr (to f w)) (t.only f e);
}

pub told_on : (a b : List Fact) (W : Fact → Type 0) → Tells a b W → (f : Fact) → has_fact a f ≡ true
    → has_fact b f ≡ true
told_on a b W t f e = let r = told_place a f e in place_told b r.0 f (t.extends r.0 f r.1)

pub tells_then : (a b d : List Fact) (W V : Fact → Type 0) → Tells a b W → Tells b d V → Tells a d (λ f. W f ⊎ V f)
tells_then a b d W V s t = record { extends = λ i f e. t.extends i f (s.extends i f e); has = has; only = only }
  where
    has : (f : Fact) → W f ⊎ V f → has_fact d f ≡ true
    has f (inl w) = told_on b d V t f (s.has f w)
    has f (inr v) = t.has f v

    only : (f : Fact) → has_fact d f ≡ true → (has_fact a f ≡ true) ⊎ (W f ⊎ V f)
    only f e = ⊎_elim (λ o. ⊎_elim (λ x. inl x) (λ w. inr (inl w)) (s.only f o)) (λ v. inr (inr v)) (t.only f e)

pub tells_one : (fs : List Fact) (g : Fact) → Tells fs (with_fact fs g) (λ f. f ≡ g)
tells_one fs g = go (has_fact fs g) refl
  where
    go : (b : Bool) → has_fact fs g ≡ b → Tells fs (if b then fs else fs ++ g ∷ []) (λ f. f ≡ g)
    go true e = tells_none fs (λ f. f ≡ g) (λ f s. subst (λ x. has_fact fs x ≡ true) (sym s) e)
    go false e = record { extends = extends; has = has; only = only }
      where
        extends : (i : ℕ) (f : Fact) → slice_get fs i ≡ Some f → slice_get (fs ++ g ∷ []) i ≡ Some f
        extends i f s = before fs i s
          where
            before : (xs : List Fact) (j : ℕ) → slice_get xs j ≡ Some f → slice_get (xs ++ g ∷ []) j ≡ Some f
            before [] j s = absurd (none-some f s)
            before (x ∷ xs) zero s = s
            before (x ∷ xs) (suc j) s = before xs j s

        has : (f : Fact) → f ≡ g → has_fact (fs ++ g ∷ []) f ≡ true
        has f s = told_last fs g f
            ∙ or_right (has_fact fs f) (same_fact f g) (subst (λ x. same_fact f x ≡ true) s (same_self f))

        only : (f : Fact) → has_fact (fs ++ g ∷ []) f ≡ true → (has_fact fs f ≡ true) ⊎ (f ≡ g)
        only f e = ⊎_elim (λ o. inl o) (λ s. inr (same_is f g s))
            (or_cases (has_fact fs f) (same_fact f g) (sym (told_last fs g f) ∙ e))
