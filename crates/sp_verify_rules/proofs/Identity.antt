-- The number of a frame of a process tells the process and the number that the frame has there.
use Rattle.std.proofs.Common.{◌≡◌, ◌⊎◌, inl, inr, ℕ, ◌+◌, ◌*◌, ◌≤◌, ◌<◌, ap, arith}
use Rattle.std.proofs.lemmas.Nat.{mul-le}
use Rattle.sp_base.proofs.Facts.{less_same_or_more}
use Rattle.sp_code.specs.Sound.{identity}

next_square : (s : ℕ) → (s + 1) * (s + 1) ≡ s * s + s + s + 1
next_square s = omega arith

-- a lesser sum gives a lesser number
less : (s t m n : ℕ) → m ≤ s → s < t → s * s + m < t * t + n
less s t m n l h =
    let b = mul-le (s + 1) (s + 1) t t (omega (arith, h)) (omega (arith, h)) in
    let sq = next_square s in
    omega (arith, b, sq, l)

pub identity_same : (a m b n : ℕ) → identity a m ≡ identity b n → (a ≡ b) × (m ≡ n)
identity_same a m b n e = go (less_same_or_more (a + m) (b + n))
  where
    go : (a + m < b + n) ⊎ ((a + m ≡ b + n) ⊎ (b + n < a + m)) → (a ≡ b) × (m ≡ n)
    go (inl h) = absurd (let l = less (a + m) (b + n) m n (omega arith) h in omega (arith, l, e))
    go (inr (inr h)) = absurd (let l = less (b + n) (a + m) n m (omega arith) h in omega (arith, l, e))
    go (inr (inl h)) = let same : m ≡ n = number (a + m) (b + n) h e in (omega (arith, same, h), same)
      where
        number : (s t : ℕ) → s ≡ t → s * s + m ≡ t * t + n → m ≡ n
        number s t i w = let u : s * s ≡ t * t = ap (λ z. z * z) i in omega (arith, u, w)
