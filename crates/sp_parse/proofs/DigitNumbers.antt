-- Numbers that digits write.
use Rattle.std.proofs.Common.{◌≡◌, ℕ, ◌+◌, ◌-◌, ◌*◌, ◌≤◌, List, [], ◌∷◌, length, get_or, arith}
use Rattle.sp_tree.specs.Spelling.{digits_value}

grows : (n : ℕ) (bs : List ℕ) → n ≤ digits_value n bs
grows n [] = omega arith
grows n (b ∷ bs) = omega (arith, grows (10 * n + (b - 48)) bs)

pub room : (v m d : ℕ) (bs : List ℕ) → digits_value v bs ≡ m → m ≤ 9223372036854775807 → 1 ≤ length bs
    → d ≡ get_or bs 0 0 - 48 → 10 * v + d ≤ 9223372036854775807
room v m d [] e h l q = absurd (omega arith)
room v m d (b ∷ bs) e h l q = omega (arith, grows (10 * v + (b - 48)) bs, e, q)
