-- Tests on numbers as statements: what a test that is true says.
use Rattle.std.proofs.Common.{◌≡◌, ℕ, ◌<◌, ◌≤◌, Bool, true, false, ◌&&◌, ◌==◌, nat_lt, nat_le}
use Rattle.std.proofs.Common.{is_err, sym, ◌∙◌, arith, Result, Ok, Err, ap, suc, zero, ◌++◌, ◌+◌, ◌∷◌, []}
use Rattle.std.specs.Result.{OnOk}
use Rattle.std.proofs.lemmas.Bool.Decides.{nat_tests}
use Rattle.std.proofs.lemmas.Bool.{true≢false}
use Rattle.sp_journal.specs.Queue.{numbers}

pub here : (j k : ℕ) → j ≡ k → j == k ≡ true
here j k e = grind (arith, nat_tests)

pub equal_of_test : (j k : ℕ) → j == k ≡ true → j ≡ k
equal_of_test j k e = grind (arith, nat_tests)

pub between : (a q b : ℕ) → a ≤ q → q < b → nat_le a q && nat_lt q b ≡ true
between a q b l h = grind (arith, nat_tests)

pub below : (a q b : ℕ) → q < a → nat_le a q && nat_lt q b ≡ false
below a q b l = grind (arith, nat_tests)

pub above : (a q b : ℕ) → b ≤ q → nat_le a q && nat_lt q b ≡ false
above a q b l = grind (arith, nat_tests)

-- what holds of an `Ok` that was tested
pub if_not_err : {T E P : Type 0} (r : Result T E) (b : Bool) → b ≡ is_err r → b ≡ false → OnOk r P → P
if_not_err (Ok x) b e f p = p
if_not_err (Err x) b e f p = absurd (true≢false (sym e ∙ f))

-- numbers in a row end with the last
pub numbers_last : (a n : ℕ) → numbers a (suc n) ≡ numbers a n ++ (a + n) ∷ []
numbers_last a zero = let e : a ≡ a + 0 = omega arith in ap (λ i. i ∷ []) e
numbers_last a (suc n) = let e : suc a + n ≡ a + suc n = omega arith in
    ap (λ l. a ∷ l) (numbers_last (suc a) n ∙ ap (λ i. numbers (suc a) n ++ i ∷ []) e)
