-- Laws of cutting a text at a byte.
use Rattle.std.proofs.Common.{◌≡◌, ◌≢◌, ℕ, ◌<◌, ◌≤◌, List, [], ◌∷◌, ◌++◌, Some, None, refl, arith}
use Rattle.std.proofs.lemmas.Bool.{ne_eqb}
use Rattle.sp_journal.specs.Splits.{first_split, last_split}
use Rattle.sp_journal.proofs.Facts.{here}

-- each element is from lo to hi
abbrev pub AllInRange : ℕ → ℕ → List ℕ → Type 0
AllInRange lo hi [] = Unit {0}
AllInRange lo hi (x ∷ xs) = (lo ≤ x) × (x ≤ hi) × AllInRange lo hi xs

-- no element is c
abbrev pub HasNone : ℕ → List ℕ → Type 0
HasNone c [] = Unit {0}
HasNone c (x ∷ xs) = (x ≢ c) × HasNone c xs

pub within_append : (lo hi : ℕ) (xs ys : List ℕ) → AllInRange lo hi xs → AllInRange lo hi ys
    → AllInRange lo hi (xs ++ ys)
within_append lo hi [] ys a b = b
within_append lo hi (x ∷ xs) ys a b = (a.0, a.1, within_append lo hi xs ys a.2 b)

pub within_wider : (lo hi low high : ℕ) (xs : List ℕ) → low ≤ lo → hi ≤ high → AllInRange lo hi xs
    → AllInRange low high xs
within_wider lo hi low high [] l h w = tt
within_wider lo hi low high (x ∷ xs) l h w =
    (let a = w.0 in omega arith, let a = w.1 in omega arith, within_wider lo hi low high xs l h w.2)

pub without_low : (c lo hi : ℕ) (xs : List ℕ) → c < lo → AllInRange lo hi xs → HasNone c xs
without_low c lo hi [] l w = tt
without_low c lo hi (x ∷ xs) l w = (λ e. let a = w.0 in omega arith, without_low c lo hi xs l w.2)

pub first_at : (c : ℕ) (xs ys : List ℕ) → HasNone c xs → first_split c (xs ++ c ∷ ys) ≡ Some (xs, ys)
first_at c [] ys w = rw (here c c refl) refl
first_at c (x ∷ xs) ys w = rw (ne_eqb x c w.0) (rw (first_at c xs ys w.1) refl)

pub last_none : (c : ℕ) (xs : List ℕ) → HasNone c xs → last_split c xs ≡ None
last_none c [] w = refl
last_none c (x ∷ xs) w = rw (last_none c xs w.1) (rw (ne_eqb x c w.0) refl)

pub last_after_none : (c : ℕ) (xs ys : List ℕ) → last_split c ys ≡ None → last_split c (xs ++ c ∷ ys) ≡ Some (xs, ys)
last_after_none c [] ys e = rw e (rw (here c c refl) refl)
last_after_none c (x ∷ xs) ys e = rw (last_after_none c xs ys e) refl

pub last_at : (c : ℕ) (xs ys : List ℕ) → HasNone c ys → last_split c (xs ++ c ∷ ys) ≡ Some (xs, ys)
last_at c xs ys w = last_after_none c xs ys (last_none c ys w)
