-- A length as it is told is beyond the limit of code exactly where the length is.
use Rattle.std.proofs.Common.{◌≡◌, ℕ, ◌<◌, ◌≤◌, ◌↔◌, Bool, true, false, true≢false, sym, arith}
use Rattle.std.specs.Prelude.{min, IsTrue}
use Rattle.sp_generate.specs.CappedLength.{capped_length}

within : (m n : ℕ) → min n m ≤ 1048576 → 1048576 < m → n ≤ 1048576
within m n h k = omega (arith, h, k)

pub told_within : (n : ℕ) → capped_length n ≤ 1048576 → n ≤ 1048576
told_within n h = within 4294967295 n h (omega arith)

beyond : (m n : ℕ) → 1048576 < min n m → 1048576 < n
beyond m n h = omega (arith, h)

pub told_beyond : (n : ℕ) → 1048576 < capped_length n → 1048576 < n
told_beyond n h = beyond 4294967295 n h

pub not_long : (b : Bool) (n : ℕ) → IsTrue b ↔ (1048576 < n) → b ≡ false → n ≤ 1048576
not_long true n h e = absurd (true≢false e)
not_long false n h e = let few : 1048576 < n → ⊥ = λ k. true≢false (sym (h.1 k)) in omega (arith, few)
