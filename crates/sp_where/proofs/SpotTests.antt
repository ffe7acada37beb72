-- Whether one of some spots passes a test, one spot after another.
use Rattle.std.proofs.Common.{◌≡◌, ℕ, zero, suc, ◌+◌, ◌<◌, ◌≤◌, List, [], ◌∷◌, length, drop, get_or, sym, ap}
use Rattle.std.proofs.Common.{◌∙◌, arith}
use Rattle.std.proofs.Common.{Bool, true, false, ◌||◌}
use Rattle.std.specs.List.{list_any}
use Rattle.std.proofs.lemmas.List.{drop_all}

pub any_here : {A : Type 0} (test : A → Bool) (xs : List A) (i : ℕ) (x : A) → i < length xs → x ≡ get_or xs i x
    → test x ≡ true → list_any test (drop i xs) ≡ true
any_here test [] i x h e t = absurd (omega (arith, h))
any_here test (y ∷ xs) zero x h e t = ap (λ z. test z || list_any test xs) (sym e) ∙ ap (λ b. b || list_any test xs) t
any_here test (y ∷ xs) (suc i) x h e t = any_here test xs i x (omega (arith, h)) e t

pub any_on : {A : Type 0} (test : A → Bool) (xs : List A) (i : ℕ) (x : A) → i < length xs → x ≡ get_or xs i x
    → test x ≡ false → list_any test (drop i xs) ≡ list_any test (drop (i + 1) xs)
any_on test [] i x h e t = absurd (omega (arith, h))
any_on test (y ∷ xs) zero x h e t = ap (λ z. test z || list_any test xs) (sym e) ∙ ap (λ b. b || list_any test xs) t
any_on test (y ∷ xs) (suc i) x h e t = let one : suc (i + 1) ≡ suc i + 1 = omega arith in
    any_on test xs i x (omega (arith, h)) e t ∙ ap (λ n. list_any test (drop n (y ∷ xs))) one

pub any_end : {A : Type 0} (test : A → Bool) (xs : List A) (i : ℕ) → length xs ≤ i → list_any test (drop i xs) ≡ false
any_end test xs i h = ap (list_any test) (drop_all i xs h)
