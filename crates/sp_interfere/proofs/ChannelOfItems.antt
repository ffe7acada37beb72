-- What stands before each of several items, as their channel, needs to be looked at once.
use Rattle.std.proofs.Common.{◌≡◌, ◌⊎◌, inl, inr, ℕ, ◌+◌, Bool, false, List, [], ◌∷◌, map, length, Some, None}
use Rattle.std.proofs.Common.{refl, sym, ap, ◌∙◌, subst}
use Rattle.std.proofs.lemmas.Option.{same_Some}
use Rattle.sp_base.specs.declared.place.Place.{Place}
use Rattle.sp_base.specs.declared.halt.Refusal.{Refusal}
use Rattle.sp_base.specs.declared.rule.Rule.{Rule}
use Rattle.sp_tree.specs.First.{refusal_before, IsFirst}
use Rattle.sp_tree.specs.PhaseResults.{FirstRefusal}
use Rattle.sp_tree.specs.PlainChecked.{Expression, Variable, Program}
use Rattle.sp_tree.specs.CheckedOf.{sends, receives}
use Rattle.sp_tree.specs.Sites.{Site, StopsAt, expression_sites, variable_sites}
use Rattle.sp_tree.specs.Interferes.{IsSite}
use Rattle.sp_tree.proofs.RefusalOrder.{one_first}
use Rattle.sp_varsets.specs.declared.sets.Sets.{Sets}
use Rattle.sp_interfere.specs.Rules.{site_first}
use Rattle.sp_interfere.specs.Walk.{each_first, expression_first, variable_first, statements_first}
use Rattle.sp_interfere.proofs.Along.{expression_along, variable_along}
use Rattle.sp_interfere.proofs.FindsFirst.{Finds, finds_none, finds_both, finds_as}
use Rattle.sp_interfere.proofs.FirstBreaches.{refusal, AtSite, finds_site, finds_along}

module _ (f h : FirstRefusal → FirstRefusal) (P Q : Refusal → Type 0) (to : (x : Refusal) → P x → Q x)
    (from : (x : Refusal) → Q x → P x) (a : Finds f P) (b : Finds h Q) (g : FirstRefusal) where
  abbrev GivenOr : Rule → Place → Type 0
  GivenOr r at = (g ≡ Some (refusal r at)) ⊎ P (refusal r at)

  forth : (x : Refusal) → (g ≡ Some x) ⊎ P x → (g ≡ Some x) ⊎ Q x
  forth x (inl e) = inl e
  forth x (inr p) = inr (to x p)

  back : (x : Refusal) → (g ≡ Some x) ⊎ Q x → (g ≡ Some x) ⊎ P x
  back x (inl e) = inl e
  back x (inr q) = inr (from x q)

  first_a : (x : Refusal) → f g ≡ Some x → IsFirst GivenOr x
  first_a x e = record {
    breaks = a.among g x e;
    first = λ other i. let z = a.least g other i in
        subst (λ w. refusal_before other w ≡ false) (same_Some z.0 x (sym z.1 ∙ e)) z.2;
  }

  first_b : (x : Refusal) → h g ≡ Some x → IsFirst GivenOr x
  first_b x e = record {
    breaks = back x (b.among g x e);
    first = λ other i. let z = b.least g other (forth other i) in
        subst (λ w. refusal_before other w ≡ false) (same_Some z.0 x (sym z.1 ∙ e)) z.2;
  }

  by : (m n : FirstRefusal) → f g ≡ m → h g ≡ n → f g ≡ h g
  by None None p q = p ∙ sym q
  by (Some x) (Some y) p q = p ∙ (ap Some (one_first GivenOr x y (first_a x p) (first_b y q)) ∙ sym q)
  by None (Some y) p q = absurd (let z = a.least g y (back y (b.among g y q)) in cc (z.1, p))
  by (Some x) None p q = absurd (let z = b.least g x (forth x (a.among g x p)) in cc (z.1, q))

  -- what finds the first of the same finds the same
  same : f g ≡ h g
  same = by (f g) (h g) refl refl

-- with something before each item
module _ {A : Type 0} (one : A → FirstRefusal → FirstRefusal) (head : FirstRefusal → FirstRefusal) where
  abbrev headed : List A → FirstRefusal → FirstRefusal
  headed [] g = g
  headed (x ∷ xs) g = headed xs (one x (head g))

  module _ (E : A → Refusal → Type 0) (ones : (x : A) → Finds (one x) (E x)) (H : Refusal → Type 0)
      (heads : Finds head H) where
    abbrev Headed : List A → Refusal → Type 0
    Headed [] r = ⊥
    Headed (x ∷ xs) r = (H r ⊎ E x r) ⊎ Headed xs r

    abbrev SomeIn : List A → Refusal → Type 0
    SomeIn [] r = ⊥
    SomeIn (x ∷ xs) r = E x r ⊎ SomeIn xs r

    finds_headed : (xs : List A) → Finds (headed xs) (Headed xs)
    finds_headed [] = finds_none
    finds_headed (x ∷ xs) = finds_both (finds_both heads (ones x)) (finds_headed xs)

    finds_each : (xs : List A) → Finds (each_first one xs) (SomeIn xs)
    finds_each [] = finds_none
    finds_each (x ∷ xs) = finds_both (ones x) (finds_each xs)

    apart : (xs : List A) (r : Refusal) → Headed xs r → H r ⊎ SomeIn xs r
    apart [] r h = absurd h
    apart (x ∷ xs) r (inl (inl h)) = inl h
    apart (x ∷ xs) r (inl (inr h)) = inr (inl h)
    apart (x ∷ xs) r (inr h) = go (apart xs r h)
      where
        go : H r ⊎ SomeIn xs r → H r ⊎ SomeIn (x ∷ xs) r
        go (inl k) = inl k
        go (inr k) = inr (inr k)

    among : (xs : List A) (r : Refusal) → SomeIn xs r → Headed xs r
    among [] r h = h
    among (x ∷ xs) r (inl h) = inl (inr h)
    among (x ∷ xs) r (inr h) = inr (among xs r h)

    joined : (x : A) (xs : List A) (r : Refusal) → H r ⊎ SomeIn (x ∷ xs) r → Headed (x ∷ xs) r
    joined x xs r (inl h) = inl (inl h)
    joined x xs r (inr h) = among (x ∷ xs) r h

    once : (x : A) (xs : List A) (g : FirstRefusal) → headed (x ∷ xs) g ≡ each_first one (x ∷ xs) (head g)
    once x xs g = same (headed (x ∷ xs)) (λ g. each_first one (x ∷ xs) (head g)) (Headed (x ∷ xs))
        (λ r. H r ⊎ SomeIn (x ∷ xs) r) (apart (x ∷ xs)) (joined x xs) (finds_headed (x ∷ xs))
        (finds_both heads (finds_each (x ∷ xs))) g

module _ (s : Sets) (c : Program) (f : Bool) (d : ℕ) where
  abbrev In : List Site → Refusal → Type 0
  In sites x = (site : Site) × IsSite site sites × AtSite s c f d site x

  finds_expression : (e : Expression) → Finds (expression_first (site_first s c f d) e) (In (expression_sites e))
  finds_expression e = finds_as (expression_along (site_first s c f d) e) (λ x h. h) (λ x h. h)
      (finds_along (site_first s c f d) (AtSite s c f d) (finds_site s c f d) (expression_sites e))

  finds_variable : (v : Variable) → Finds (variable_first (site_first s c f d) v) (In (variable_sites v))
  finds_variable v = finds_as (variable_along (site_first s c f d) v) (λ x h. h) (λ x h. h)
      (finds_along (site_first s c f d) (AtSite s c f d) (finds_site s c f d) (variable_sites v))

  abbrev channel_first : Place → Expression → FirstRefusal → FirstRefusal
  channel_first at ch g = expression_first (site_first s c f d) ch (site_first s c f d (StopsAt at) g)

  finds_channel : (at : Place) (ch : Expression)
      → Finds (channel_first at ch) (λ x. AtSite s c f d (StopsAt at) x ⊎ In (expression_sites ch) x)
  finds_channel at ch = finds_both (finds_site s c f d (StopsAt at)) (finds_expression ch)

  sends_are : (n : ℕ) (at : Place) (ch : Expression) (es : List Expression) (g : FirstRefusal)
      → statements_first (site_first s c f d) (sends n at ch es) g
      ≡ headed (expression_first (site_first s c f d)) (channel_first at ch) es g
  sends_are n at ch [] g = refl
  sends_are n at ch (e ∷ es) g = sends_are (n + 1) at ch es _

  receives_are : (n : ℕ) (at : Place) (ch : Expression) (vs : List Variable) (g : FirstRefusal)
      → statements_first (site_first s c f d) (receives n at ch vs) g
      ≡ headed (variable_first (site_first s c f d)) (channel_first at ch) vs g
  receives_are n at ch [] g = refl
  receives_are n at ch (v ∷ vs) g = receives_are (n + 1) at ch vs _

  sends_once : (n : ℕ) (at : Place) (ch e : Expression) (es : List Expression) (g : FirstRefusal)
      → statements_first (site_first s c f d) (sends n at ch (e ∷ es)) g
      ≡ each_first (expression_first (site_first s c f d)) (e ∷ es)
      (expression_first (site_first s c f d) ch (site_first s c f d (StopsAt at) g))
  sends_once n at ch e es g = sends_are n at ch (e ∷ es) g
      ∙ once (expression_first (site_first s c f d)) (channel_first at ch) (λ e. In (expression_sites e))
      finds_expression (λ x. AtSite s c f d (StopsAt at) x ⊎ In (expression_sites ch) x) (finds_channel at ch) e es g

  receives_once : (n : ℕ) (at : Place) (ch : Expression) (v : Variable) (vs : List Variable) (g : FirstRefusal)
      → statements_first (site_first s c f d) (receives n at ch (v ∷ vs)) g
      ≡ each_first (variable_first (site_first s c f d)) (v ∷ vs)
      (expression_first (site_first s c f d) ch (site_first s c f d (StopsAt at) g))
  receives_once n at ch v vs g = receives_are n at ch (v ∷ vs) g
      ∙ once (variable_first (site_first s c f d)) (channel_first at ch) (λ v. In (variable_sites v)) finds_variable
      (λ x. AtSite s c f d (StopsAt at) x ⊎ In (expression_sites ch) x) (finds_channel at ch) v vs g

  -- the same of a list in memory that is not empty
  pub sends_some : {A : Type 0} (view : A → Expression) (n : ℕ) (at : Place) (ch : Expression) (xs : List A)
      → (length xs ≡ 0 → ⊥) → (g : FirstRefusal) → statements_first (site_first s c f d) (sends n at ch (map view xs)) g
      ≡ each_first (expression_first (site_first s c f d)) (map view xs)
      (expression_first (site_first s c f d) ch (site_first s c f d (StopsAt at) g))
  sends_some view n at ch [] some g = absurd (some refl)
  sends_some view n at ch (x ∷ xs) some g = sends_once n at ch (view x) (map view xs) g

  pub receives_some : {A : Type 0} (view : A → Variable) (n : ℕ) (at : Place) (ch : Expression) (xs : List A)
      → (length xs ≡ 0 → ⊥) → (g : FirstRefusal)
      → statements_first (site_first s c f d) (receives n at ch (map view xs)) g
      ≡ each_first (variable_first (site_first s c f d)) (map view xs)
      (expression_first (site_first s c f d) ch (site_first s c f d (StopsAt at) g))
  receives_some view n at ch [] some g = absurd (some refl)
  receives_some view n at ch (x ∷ xs) some g = receives_once n at ch (view x) (map view xs) g
