-- Tables by numbers: what one write changes.
use Rattle.std.proofs.Common.{◌≡◌, ◌≢◌, ◌⊎◌, ℕ, zero, suc, ◌<◌, ◌==◌, inl, inr, false, cond, List, [], ◌∷◌, length}
use Rattle.std.proofs.Common.{Option, Some, slice_get, slice_set, refl, ap, ◌∙◌, subst}
use Rattle.std.proofs.Math.Path.{fun_ext}
use Rattle.std.proofs.lemmas.Option.{slice_get-get_or}
use Rattle.std.specs.Prelude.{slice_index_or}
use Rattle.sp_base.proofs.Facts.{get_beside_set, get_where_set, equals_itself}
use Rattle.sp_journal.specs.Maps.{at_key}
use Rattle.sp_code.proofs.Queues.{number_or}

pub set_twice : {X : Type 0} (xs : List X) (i : ℕ) (x y : X) → slice_set (slice_set xs i x) i y ≡ slice_set xs i y
set_twice [] i x y = refl
set_twice (z ∷ xs) zero x y = refl
set_twice (z ∷ xs) (suc i) x y = ap (λ l. z ∷ l) (set_twice xs i x y)

-- what is told of a table after a write
pub table_set : {X Y : Type 0} (f : Option X → Y) (xs : List X) (i : ℕ) (x : X) → i < length xs
    → ◌≡◌ {A = ℕ → Y} (λ q. f (slice_get (slice_set xs i x) q)) (at_key ◌==◌ i (f (Some x)) (λ q. f (slice_get xs q)))
table_set f xs i x l = fun_ext (λ q. go q (number_or i q))
  where
    go : (q : ℕ) → (i ≡ q) ⊎ ((i ≢ q) × (i == q ≡ false))
        → f (slice_get (slice_set xs i x) q) ≡ cond (i == q) (f (Some x)) (f (slice_get xs q))
    go q (inl e) = subst (λ j. f (slice_get (slice_set xs i x) j) ≡ cond (i == j) (f (Some x)) (f (slice_get xs j))) e
        (ap f (get_where_set xs i x l) ∙ rw (equals_itself i) refl)
    go q (inr o) = ap f (get_beside_set xs i q x o.0) ∙ rw (o.1) refl

-- a write of what was there
pub set_as_it_was : {X : Type 0} (m : ℕ → X) (q : ℕ) (v : X) → v ≡ m q → at_key ◌==◌ q v m ≡ m
set_as_it_was m q v f = fun_ext (λ r. go r (number_or q r))
  where
    go : (r : ℕ) → (q ≡ r) ⊎ ((q ≢ r) × (q == r ≡ false)) → cond (q == r) v (m r) ≡ m r
    go r (inl is) = subst (λ i. cond (q == i) v (m i) ≡ m i) is (rw (equals_itself q) f)
    go r (inr o) = rw (o.1) refl

-- what is pending, read from the table
pub table_has : {X : Type 0} (xs : List X) (i : ℕ) (d y : X) → i < length xs → slice_index_or xs i d ≡ y
    → slice_get xs i ≡ Some y
table_has xs i d y l e = slice_get-get_or xs i d l ∙ ap (λ z. Some z) e
