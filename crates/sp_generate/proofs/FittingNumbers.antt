-- The numbers that fit, one after the other.
use Rattle.std.proofs.Common.{◌≡◌, ℕ, zero, suc, ◌<◌, ◌≤◌, ◌-◌, ◌+◌, ◌*◌, ◌^◌, List, [], ◌∷◌, ◌++◌, Bool, true, false}
use Rattle.std.proofs.Common.{Result, Ok, Err, IfOk, if◌then◌else◌, refl, sym, ap, ◌∙◌, arith, append_assoc, append-nil}
use Rattle.sp_generate.specs.Handings.{fitting_numbers}

-- the list that is made, where what is written is this unless the writer is lost
pub listed : {E : Type 0} {lost : Bool} {items goal : List ℕ} (r : Result (List ℕ) E)
    → IfOk r (λ xs. (lost ≡ false) × (xs ≡ items)) → (lost ≡ false → items ≡ goal) → IfOk r (λ xs. xs ≡ goal)
listed (Ok xs) h e = h.1 ∙ e h.0
listed (Err x) h e = h

-- none of these fits
pub nothing_fits : (f : ℕ → Bool) (x n : ℕ) → ((y : ℕ) → x ≤ y → f y ≡ false) → fitting_numbers f x n ≡ []
nothing_fits f x zero none = refl
nothing_fits f x (suc n) none =
    ap (λ (b : Bool). if b then x ∷ fitting_numbers f (suc x) n else fitting_numbers f (suc x) n) (none x (omega arith))
    ∙ nothing_fits f (suc x) n (λ y h. none y (omega (arith, h)))

-- the first k do not fit
skipped : (f : ℕ → Bool) (x k m : ℕ) → ((y : ℕ) → x ≤ y → y < x + k → f y ≡ false)
    → fitting_numbers f x (k + m) ≡ fitting_numbers f (x + k) m
skipped f x zero m none = let e : 0 + m ≡ m = omega arith in let o : x ≡ x + 0 = omega arith in
    (λ i. fitting_numbers f (o i) (e i))
skipped f x (suc k) m none =
    let e : suc k + m ≡ suc (k + m) = omega arith in
    let o : suc x + k ≡ x + suc k = omega arith in
    ap (λ (n : ℕ). fitting_numbers f x n) e
    ∙ ap (λ (b : Bool). if b then x ∷ fitting_numbers f (suc x) (k + m) else fitting_numbers f (suc x) (k + m))
    (none x (omega arith) (omega arith))
    ∙ skipped f (suc x) k m (λ y h i. none y (omega (arith, h)) (omega (arith, i)))
    ∙ ap (λ (n : ℕ). fitting_numbers f n m) o

-- the first that fits is y
first_fits : (f : ℕ → Bool) (n x y : ℕ) → x ≤ y → f y ≡ true → ((z : ℕ) → x ≤ z → z < y → f z ≡ false) → y < n
    → fitting_numbers f x (n - x) ≡ y ∷ fitting_numbers f (y + 1) (n - (y + 1))
first_fits f n x y low e none h =
    let k : n - x ≡ (y - x) + suc (n - (y + 1)) = omega arith in
    let o : x + (y - x) ≡ y = omega arith in
    let s : suc y ≡ y + 1 = omega arith in
    ap (λ (m : ℕ). fitting_numbers f x m) k
    ∙ skipped f x (y - x) (suc (n - (y + 1))) (λ z a b. none z a (omega (arith, b)))
    ∙ ap (λ (m : ℕ). fitting_numbers f m (suc (n - (y + 1)))) o
    ∙ ap (λ (b : Bool). if b then y ∷ fitting_numbers f (suc y) (n - (y + 1)) else fitting_numbers f (suc y)
    (n - (y + 1))) e
    ∙ ap (λ (m : ℕ). y ∷ fitting_numbers f m (n - (y + 1))) s

pub next_fits : (f : ℕ → Bool) (base : List ℕ) (n x y : ℕ) → x ≤ y → f y ≡ true
    → ((z : ℕ) → x ≤ z → z < y → f z ≡ false) → y < n
    → (base ++ y ∷ []) ++ fitting_numbers f (y + 1) (n - (y + 1)) ≡ base ++ fitting_numbers f x (n - x)
next_fits f base n x y low e none h = append_assoc base (y ∷ []) (fitting_numbers f (y + 1) (n - (y + 1)))
    ∙ ap (λ (ys : List ℕ). base ++ ys) (sym (first_fits f n x y low e none h))

pub none_fits : (f : ℕ → Bool) (base : List ℕ) (n x : ℕ) → ((y : ℕ) → x ≤ y → f y ≡ false)
    → base ++ fitting_numbers f x (n - x) ≡ base
none_fits f base n x none = ap (λ (ys : List ℕ). base ++ ys) (nothing_fits f x (n - x) none) ∙ append-nil base

-- above this number there is none, where all are below so many words
pub none_from : (f : ℕ → Bool) (w x : ℕ) → w ≤ 67108864 → ((y : ℕ) → f y ≡ true → y < 64 * w)
    → ((y : ℕ) → x ≤ y → y < 2 ^ 32 → f y ≡ false) → (y : ℕ) → x ≤ y → f y ≡ false
none_from f w x few below none y h = go (f y) refl
  where
    go : (b : Bool) → f y ≡ b → f y ≡ false
    go true e = let low = below y e in none y h (omega (arith, low, few))
    go false e = e
