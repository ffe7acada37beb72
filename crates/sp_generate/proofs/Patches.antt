-- One instruction is changed in the middle of a list.
use Rattle.std.proofs.Common.{◌≡◌, ℕ, zero, suc, ◌<◌, ◌≤◌, le_of_suc-le-suc, not-suc-le-zero, lt_irrefl, lt_of_lt_of_le}
use Rattle.std.proofs.Common.{List, [], ◌∷◌, ◌++◌, length, refl, ap, ◌∙◌, arith, length-append}
use Rattle.std.specs.Prelude.{slice_set}
use Rattle.std.proofs.Math.Seq.{set-append_seam}

pub patched : {A : Type 0} (a b c : List A) (x y : A) (n : ℕ) → c ≡ a ++ x ∷ b → n ≡ length a
    → slice_set c n y ≡ a ++ y ∷ b
patched a b c x y n e m = ap (λ l. slice_set l n y) e ∙ ap (λ k. slice_set (a ++ x ∷ b) k y) m ∙ set-append_seam a x b y

-- the place is there
pub within : {A : Type 0} (a b c : List A) (x : A) (n : ℕ) → c ≡ a ++ x ∷ b → n ≡ length a → n < length c
within a b c x n e m = omega (arith, ap length e, length-append a (x ∷ b), m)

-- no item stands there
pub set_beyond : {A : Type 0} (xs : List A) (n : ℕ) (y : A) → length xs ≤ n → xs ≡ slice_set xs n y
set_beyond [] n y h = refl
set_beyond (x ∷ xs) zero y h = absurd (not-suc-le-zero h)
set_beyond (x ∷ xs) (suc n) y h = ap (λ ys. x ∷ ys) (set_beyond xs n y (le_of_suc-le-suc h))

-- the place that is mended is there
pub outside : {A : Type 0} (a b c d : List A) (x y : A) (n : ℕ) → length c ≤ n → c ≡ a ++ x ∷ b → n ≡ length a
    → d ≡ a ++ y ∷ b
outside a b c d x y n h e m = absurd (lt_irrefl n (lt_of_lt_of_le (within a b c x n e m) h))
