-- A statement clashes with one before it exactly where it meets the unions of what came before.
use Rattle.std.proofs.Common.{◌≡◌, ◌⊎◌, inl, inr, ℕ, ◌+◌, ◌<◌, Bool, true, false, ◌||◌, List, [], ◌∷◌}
use Rattle.std.proofs.Common.{◌++◌, refl, sym, ap, ◌∙◌, subst, arith}
use Rattle.std.specs.List.{list_any}
use Rattle.std.proofs.lemmas.Bool.{or_cases, or_left, or_right}
use Rattle.sp_base.proofs.Facts.{or_with_false}
use Rattle.sp_tree.specs.Interference.{IsMember}
use Rattle.sp_varsets.specs.declared.sets.Sets.{Sets}
use Rattle.sp_varsets.specs.declared.union.VarUnion.{VarUnion}
use Rattle.sp_varsets.specs.Members.{has, InWindow, union_has}
use Rattle.sp_varsets.specs.AreSets.{targets_of, expressions_of}
use Rattle.sp_interfere.specs.Tests.{clash, Joins, is_target, is_used}
use Rattle.sp_interfere.proofs.SetTests.{any_from, any_to, clash_from, clash_target, clash_seen, not_false}

any_or : (f : ℕ → Bool) (xs : List ℕ) (y : ℕ) → list_any f (xs ++ y ∷ []) ≡ (list_any f xs || f y)
any_or f [] y = or_with_false (f y)
any_or f (x ∷ xs) y = ap (λ b. f x || b) (any_or f xs y) ∙ grouped (f x) (list_any f xs) (f y)
  where
    grouped : (a b c : Bool) → a || (b || c) ≡ (a || b) || c
    grouped true b c = refl
    grouped false b c = refl

pub any_more : (f : ℕ → Bool) (xs : List ℕ) (y : ℕ) → list_any f (xs ++ y ∷ []) ≡ (list_any f xs || f y)
any_more f xs y = any_or f xs y

-- one more statement, whose set is added
pub joins_more : (u v : VarUnion) (in_one : ℕ → ℕ → Bool) (numbers : List ℕ) (n : ℕ) → Joins u in_one numbers
    → v.first ≡ u.first → ((x : ℕ) → InWindow u.first x → union_has v x ≡ (union_has u x || in_one n x))
    → Joins v in_one (numbers ++ n ∷ [])
joins_more u v in_one numbers n j e added = record {
  from = e ∙ j.from;
  all = λ x l. added x (window x l) ∙ (ap (λ b. b || in_one n x) (j.all x l)
      ∙ sym (any_more (λ m. in_one m x) numbers n));
}
  where
    window : (x : ℕ) → x < 8256 → InWindow u.first x
    window x l = let z = j.from in (omega (arith, z), omega (arith, z, l))

-- both sets of a statement, added one after the other
pub added_both : (u v w : VarUnion) (a b : ℕ → Bool) → v.first ≡ u.first → w.first ≡ v.first
    → ((x : ℕ) → InWindow u.first x → union_has v x ≡ (union_has u x || a x))
    → ((x : ℕ) → InWindow v.first x → union_has w x ≡ (union_has v x || b x))
    → (x : ℕ) → InWindow u.first x → union_has w x ≡ (union_has u x || (a x || b x))
added_both u v w a b e d p q x i = q x (subst (λ f. InWindow f x) (sym e) i)
    ∙ (ap (λ z. z || b x) (p x i) ∙ sym (grouped (union_has u x) (a x) (b x)))
  where
    grouped : (a b c : Bool) → a || (b || c) ≡ (a || b) || c
    grouped true b c = refl
    grouped false b c = refl

module _ (s : Sets) (earlier : List ℕ) (n : ℕ) (t u : VarUnion) (a : Joins t (is_target s) earlier)
    (b : Joins u (is_used s) earlier) where
  low : (v : VarUnion) (x : ℕ) → v.first ≡ 0 → InWindow v.first x → x < 8256
  low v x e i = let z = i.1 in omega (arith, e, z)

  window : (v : VarUnion) (x : ℕ) → v.first ≡ 0 → x < 8256 → InWindow v.first x
  window v x e l = (omega (arith, e), omega (arith, e, l))

  pub hit_target : (x : ℕ) → InWindow u.first x → union_has u x ≡ true → has (targets_of s n) x ≡ true
      → list_any (λ m. clash s m n) earlier ≡ true
  hit_target x i j h =
      let y = any_from (λ m. is_used s m x) earlier (sym (b.all x (low u x b.from i)) ∙ j) in
      any_to (λ m. clash s m n) earlier y.0 y.1
      (clash_target s y.0 n x h (or_cases (has (targets_of s y.0) x) (has (expressions_of s y.0) x) y.2))

  pub hit_seen : (x : ℕ) → InWindow t.first x → union_has t x ≡ true → has (expressions_of s n) x ≡ true
      → list_any (λ m. clash s m n) earlier ≡ true
  hit_seen x i j h =
      let y = any_from (λ m. is_target s m x) earlier (sym (a.all x (low t x a.from i)) ∙ j) in
      any_to (λ m. clash s m n) earlier y.0 y.1 (clash_seen s y.0 n x h y.2)

  -- where the sets of the statement are within the window and meet no union, it clashes with none
  pub no_hit : ((x : ℕ) → (has (targets_of s n) x ≡ true) ⊎ (has (expressions_of s n) x ≡ true) → x < 8256)
      → (((x : ℕ) × InWindow u.first x × (union_has u x ≡ true) × (has (targets_of s n) x ≡ true)) → ⊥)
      → (((x : ℕ) × InWindow t.first x × (union_has t x ≡ true) × (has (expressions_of s n) x ≡ true)) → ⊥)
      → false ≡ list_any (λ m. clash s m n) earlier
  no_hit narrow p q = not_false _ clashes
    where
      at : (m : ℕ) → IsMember m earlier → (x : ℕ)
          × (((has (targets_of s n) x ≡ true) × ((has (targets_of s m) x ≡ true) ⊎ (has (expressions_of s m) x ≡ true)))
          ⊎ ((has (expressions_of s n) x ≡ true) × (has (targets_of s m) x ≡ true))) → ⊥
      at m i (x, inl (h, k)) = let l = narrow x (inl h) in
          p (x, window u x b.from l, b.all x l ∙ any_to (λ m. is_used s m x) earlier m i (either k), h)
        where
          either : (has (targets_of s m) x ≡ true) ⊎ (has (expressions_of s m) x ≡ true) → is_used s m x ≡ true
          either (inl k) = or_left (has (targets_of s m) x) (has (expressions_of s m) x) k
          either (inr k) = or_right (has (targets_of s m) x) (has (expressions_of s m) x) k
      at m i (x, inr (h, k)) = let l = narrow x (inr h) in
          q (x, window t x a.from l, a.all x l ∙ any_to (λ m. is_target s m x) earlier m i k, h)

      clashes : list_any (λ m. clash s m n) earlier ≡ true → ⊥
      clashes h = let y = any_from (λ m. clash s m n) earlier h in at y.0 y.1 (clash_from s y.0 n y.2)
