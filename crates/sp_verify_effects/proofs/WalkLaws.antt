-- Operands that were gone over: nothing is found among them again.
use Rattle.std.proofs.Common.{◌≡◌, refl, sym, ap, subst, ◌∙◌, ℕ, zero, suc, ◌+◌, ◌-◌, ◌*◌, ◌<◌, List, [], ◌∷◌}
use Rattle.std.proofs.Common.{◌++◌, Some, Bool, true, false, ◌||◌, arith}
use Rattle.std.specs.Prelude.{slice_get, cond}
use Rattle.std.specs.List.{list_any}
use Rattle.std.specs.Map.{lookup}
use Rattle.std.specs.Ordering.{is_eq, nat_cmp}
use Rattle.std.specs.BTreeMap.{BTreeMap, get, is_at}
use Rattle.std.proofs.lemmas.Bool.{or_parts}
use Rattle.std.proofs.lemmas.Option.{none-some, same_Some}
use Rattle.sp_verify_rules.specs.Shapes.{Shape, A}
use Rattle.sp_verify_rules.specs.Touches.{topmost_variable}
use Rattle.sp_verify_shapes.specs.declared.stacks.Stacks.{Stacks}
use Rattle.sp_verify_shapes.specs.Stacks.{list_of}
use Rattle.sp_verify_effects.specs.Walks.{AreWalks, NoneOfTop, walk_key}
use Rattle.sp_verify_effects.proofs.Members.{nat_exact}

-- ---- lists

pub both_false : (a b : Bool) → a ≡ false → b ≡ false → (a || b) ≡ false
both_false a b e f = ap (λ z. z || b) e ∙ f

pub any_split : (P : ℕ → Bool) (xs ys : List ℕ) → list_any P (xs ++ ys) ≡ false
    → (list_any P xs ≡ false) × (list_any P ys ≡ false)
any_split P [] ys e = (refl, e)
any_split P (x ∷ xs) ys e =
    let b = or_parts (P x) (list_any P (xs ++ ys)) e in
    let r = any_split P xs ys b.1 in
    (both_false (P x) (list_any P xs) b.0 r.0, r.1)

-- ---- operands

module _ (P : ℕ → ℕ → Bool) (m : ℕ) where
  pub none_of_none : (k : ℕ) (ss : List Shape) → ss ≡ [] → NoneOfTop P m k ss
  none_of_none k ss e i x left l g = absurd (none-some (A x left) (ap (λ (z : List Shape). slice_get z i) (sym e) ∙ g))

  -- of one operand more
  pub none_of_more : (k : ℕ) (ss rest : List Shape) (s : Shape) → ss ≡ s ∷ rest
      → list_any (P m) (topmost_variable (s ∷ [])) ≡ false
      → NoneOfTop P m (k - 1) rest → NoneOfTop P m k ss
  none_of_more k ss rest s same e h = subst (NoneOfTop P m k) (sym same) go
    where
      go : NoneOfTop P m k (s ∷ rest)
      go zero x left l g =
          let f = subst (λ z. list_any (P m) (topmost_variable (z ∷ [])) ≡ false) (same_Some s (A x left) g) e in
          (or_parts (P m x) false f).0
      go (suc i) x left l g = h i x left (omega (arith, l)) g

  pub none_of_rest : (k : ℕ) (ss rest : List Shape) (s : Shape) → ss ≡ s ∷ rest → NoneOfTop P m k ss
      → NoneOfTop P m (k - 1) rest
  none_of_rest k ss rest s same h i x left l g = h (suc i) x left (omega (arith, l))
      (ap (λ (z : List Shape). slice_get z (suc i)) same ∙ g)

-- ---- what was gone over

pub no_walk : (walks : BTreeMap ℕ ℕ) → walks.entries ≡ [] → (st : Stacks) (P : ℕ → ℕ → Bool) → AreWalks st walks P
no_walk walks e st P m n k lm ln g = absurd (none-some k
    (ap (λ (z : List (ℕ × ℕ)). lookup (is_at (nat_cmp (walk_key m n))) z) (sym e) ∙ g))

pub walk_put : (st : Stacks) (P : ℕ → ℕ → Bool) (old new : BTreeMap ℕ ℕ) (m n k : ℕ) → m < 4294967296
    → n < 4294967296
    → ((q : ℕ) → get nat_cmp new q ≡ cond (is_at (nat_cmp (walk_key m n)) q) (Some k) (get nat_cmp old q))
    → AreWalks st old P → NoneOfTop P m k (list_of st n) → AreWalks st new P
walk_put st P old new m n k lm ln u h none a b j la lb g =
    go (is_eq (nat_cmp (walk_key m n) (walk_key a b))) refl (sym (u (walk_key a b)) ∙ g)
  where
    go : (t : Bool) → is_eq (nat_cmp (walk_key m n) (walk_key a b)) ≡ t
        → cond t (Some k) (get nat_cmp old (walk_key a b)) ≡ Some j → NoneOfTop P a j (list_of st b)
    go true e f =
        let d : m * 4294967296 + n ≡ a * 4294967296 + b = nat_exact (walk_key m n) (walk_key a b) e in
        let one : m ≡ a = omega (arith, d, ln, lb) in
        let other : n ≡ b = omega (arith, d, ln, lb) in
        subst (λ z. NoneOfTop P a j (list_of st z)) other (subst (λ z. NoneOfTop P z j (list_of st n)) one
        (subst (λ z. NoneOfTop P m z (list_of st n)) (same_Some k j f) none))
    go false e f = h a b j la lb f
