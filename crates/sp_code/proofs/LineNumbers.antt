-- Lines put one after another, each with its number.
use Rattle.std.proofs.Common.{◌≡◌, ℕ, zero, suc, ◌+◌, ◌<◌, List, [], ◌∷◌, ◌++◌, length, take, get_or, sym, ap, ◌∙◌}
use Rattle.std.proofs.Common.{arith, append_assoc, append-nil}
use Rattle.sp_code.specs.Listing.{numbered_texts}

numbered_suc : {X : Type 0} (text : ℕ → X → List ℕ) (n : ℕ) (xs : List X) (i : ℕ) (d : X) → i < length xs
    → numbered_texts text n (take (suc i) xs) ≡ numbered_texts text n (take i xs) ++ text (n + i) (get_or xs i d)
numbered_suc text n [] i d b = absurd (omega arith)
numbered_suc text n (x ∷ xs) zero d b = let e : n + 0 ≡ n = omega arith in
    append-nil (text n x) ∙ ap (λ (k : ℕ). text k x) (sym e)
numbered_suc text n (x ∷ xs) (suc i) d b =
    let e : suc n + i ≡ n + suc i = omega arith in
    ap (λ (ys : List ℕ). text n x ++ ys) (numbered_suc text (suc n) xs i d (omega arith))
    ∙ sym (append_assoc (text n x) (numbered_texts text (suc n) (take i xs)) (text (suc n + i) (get_or xs i d)))
    ∙ ap (λ (k : ℕ). (text n x ++ numbered_texts text (suc n) (take i xs)) ++ text k (get_or xs i d)) e

-- one more line
pub numbered_step : {X : Type 0} (text : ℕ → X → List ℕ) (xs : List X) (i : ℕ) (x : X) (old out new : List ℕ)
    → i < length xs → x ≡ get_or xs i x → out ≡ old ++ numbered_texts text 0 (take i xs) → new ≡ out ++ text i x
    → new ≡ old ++ numbered_texts text 0 (take (i + 1) xs)
numbered_step text xs i x old out new b e h k =
    let z : 0 + i ≡ i = omega arith in
    let s : suc i ≡ i + 1 = omega arith in
    k ∙ ap (λ (ys : List ℕ). ys ++ text i x) h ∙ append_assoc old (numbered_texts text 0 (take i xs)) (text i x)
    ∙ ap (λ (y : _). old ++ (numbered_texts text 0 (take i xs) ++ text i y)) e
    ∙ ap (λ (j : ℕ). old ++ (numbered_texts text 0 (take i xs) ++ text j (get_or xs i x))) (sym z)
    ∙ ap (λ (ys : List ℕ). old ++ ys) (sym (numbered_suc text 0 xs i x b))
    ∙ ap (λ (j : ℕ). old ++ numbered_texts text 0 (take j xs)) s

-- the same of the item that stands there
pub numbered_next : {X : Type 0} (text : ℕ → X → List ℕ) (xs : List X) (i : ℕ) (d : X) (old out new : List ℕ)
    → i < length xs → out ≡ old ++ numbered_texts text 0 (take i xs) → new ≡ out ++ text i (get_or xs i d)
    → new ≡ old ++ numbered_texts text 0 (take (i + 1) xs)
numbered_next text xs i d old out new b h k =
    let z : 0 + i ≡ i = omega arith in
    let s : suc i ≡ i + 1 = omega arith in
    k ∙ ap (λ (ys : List ℕ). ys ++ text i (get_or xs i d)) h
    ∙ append_assoc old (numbered_texts text 0 (take i xs)) (text i (get_or xs i d))
    ∙ ap (λ (j : ℕ). old ++ (numbered_texts text 0 (take i xs) ++ text j (get_or xs i d))) (sym z)
    ∙ ap (λ (ys : List ℕ). old ++ ys) (sym (numbered_suc text 0 xs i d b))
    ∙ ap (λ (j : ℕ). old ++ numbered_texts text 0 (take j xs)) s
