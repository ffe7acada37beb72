-- A text of which the first bytes are known, one more than are shown.
use Rattle.std.proofs.Common.{◌≡◌, ◌+◌, ◌≤◌, ◌<◌, ℕ, zero, suc, List, [], ◌∷◌, ◌++◌, length, take, sym, ap, ◌∙◌, arith}
use Rattle.std.proofs.Common.{codes}
use Rattle.std.proofs.Common.{inl, inr, refl}
use Rattle.std.proofs.lemmas.List.{length-append, length-take, take_all, append_assoc}
use Rattle.std.proofs.lemmas.Bool.Decides.{leb_tells}
use Rattle.std.proofs.Math.Seq.{take-append-add}
use Rattle.sp_where.specs.Values.{cut}

fits : (c : ℕ) (t : List ℕ) → length t ≤ c → cut c t ≡ t
fits c t h = elim (leb_tells (length t) c) as (λ _. cut c t ≡ t)
    [ inl x ↦ rw x.0 refl | inr x ↦ absurd (omega (arith, h, x)) ]

longer : (c : ℕ) (t : List ℕ) → c < length t → cut c t ≡ take c t ++ codes ".."
longer c t h = elim (leb_tells (length t) c) as (λ _. cut c t ≡ take c t ++ codes "..")
    [ inl x ↦ absurd (omega (arith, h, x)) | inr x ↦ rw x.0 refl ]

take_less : (n m : ℕ) (xs : List ℕ) → n ≤ m → take n (take m xs) ≡ take n xs
take_less zero m xs h = refl
take_less (suc n) zero xs h = absurd (omega (arith, h))
take_less (suc n) (suc m) [] h = refl
take_less (suc n) (suc m) (x ∷ xs) h = ap (λ z. x ∷ z) (take_less n m xs (omega (arith, h)))

-- all that there is
pub cut_short : (c : ℕ) (before t out : List ℕ)
    → take (length before + suc c) out ≡ take (length before + suc c) (before ++ t) → length out ≤ length before + c
    → out ≡ before ++ cut c t
cut_short c before t out h few =
    let e : out ≡ before ++ take (suc c) t = sym (take_all (length before + suc c) out (omega (arith, few))) ∙ h
    ∙ take-append-add before t (suc c) in
    let n = ap length e ∙ length-append before (take (suc c) t) in
    let m = length-take (suc c) t in
    let all : length t ≤ c = omega (arith, few, n, m) in
    e ∙ ap (λ z. before ++ z) (take_all (suc c) t (omega (arith, all)) ∙ sym (fits c t all))

-- there is more
pub cut_long : (c : ℕ) (before t out : List ℕ)
    → take (length before + suc c) out ≡ take (length before + suc c) (before ++ t) → length before + c < length out
    → take (length before + c) out ++ codes ".." ≡ before ++ cut c t
cut_long c before t out h more =
    let both : take (length before + suc c) out ≡ before ++ take (suc c) t = h ∙ take-append-add before t (suc c) in
    let k = length-take (length before + suc c) out in
    let n = ap length both ∙ length-append before (take (suc c) t) in
    let m = length-take (suc c) t in
    let long : c < length t = omega (arith, more, k, n, m) in
    let e : take (length before + c) out ≡ before ++ take c t =
    sym (take_less (length before + c) (length before + suc c) out (omega arith))
    ∙ ap (take (length before + c)) both ∙ take-append-add before (take (suc c) t) c
    ∙ ap (λ z. before ++ z) (take_less c (suc c) t (omega arith)) in
    ap (λ z. z ++ codes "..") e ∙ append_assoc before (take c t) (codes "..")
    ∙ ap (λ z. before ++ z) (sym (longer c t long))

-- the same, behind as many bytes as are counted
pub cut_short_at : (c start : ℕ) (before t out : List ℕ) → length before ≡ start
    → take (start + suc c) out ≡ take (start + suc c) (before ++ t) → length out ≤ start + c → out ≡ before ++ cut c t
cut_short_at c start before t out n h few =
    cut_short c before t out (ap (λ k. take (k + suc c) out) n ∙ h ∙ sym (ap (λ k. take (k + suc c) (before ++ t)) n))
    (omega (arith, n, few))

pub cut_long_at : (c start : ℕ) (before t out : List ℕ) → length before ≡ start
    → take (start + suc c) out ≡ take (start + suc c) (before ++ t) → start + c < length out
    → take (start + c) out ++ codes ".." ≡ before ++ cut c t
cut_long_at c start before t out n h more = ap (λ k. take (k + c) out ++ codes "..") (sym n)
    ∙ cut_long c before t out (ap (λ k. take (k + suc c) out) n ∙ h ∙ sym (ap (λ k. take (k + suc c) (before ++ t)) n))
    (omega (arith, n, more))
