-- The plan of a fork by its children: no spot moves to two of them, and what one shares is shared by the plan.
use Rattle.std.proofs.Common.{◌≡◌, ◌≢◌, ◌⊎◌, inl, inr, ℕ, zero, suc, ◌+◌, ◌<◌, ℤ, List}
use Rattle.std.proofs.Common.{subst, arith}
use Rattle.sp_base.proofs.Facts.{less_same_or_more}
use Rattle.sp_cell.specs.declared.spot.Spot.{Spot}
use Rattle.sp_cell.specs.Fork.{moved_of, shared_of}
use Rattle.sp_cell.proofs.Plan.{in_front, in_back, distinct_back}
use Rattle.sp_cell.specs.Spots.{In, IsDistinct}
use Rattle.sp_code.specs.declared.code.ForkTable.{ForkTable}
use Rattle.sp_code.specs.declared.code.Layout.{Layout}
use Rattle.sp_code.specs.Memory.{Frame}
use Rattle.sp_code.specs.System.{plan_from}
use Rattle.sp_code.proofs.Plans.{moved_back, child_handing}
use Rattle.sp_code.proofs.ForkOutputs.{distinct_apart}

module _ (ls : List Layout) (fs : List Frame) (t : ForkTable) (value : ℤ) where
  once_from : (i n j k : ℕ) (s : Spot) → j < k → k < n → IsDistinct
      (moved_of (plan_from ls fs t value i n))
      → In s (child_handing ls fs t value (i + j)).moved → In s (child_handing ls fs t value (i + k)).moved → ⊥
  once_from i zero j k s l h d a b = omega (arith, h)
  once_from i (suc n) j zero s l h d a b = omega (arith, l)
  once_from i (suc n) zero (suc k) s l h d a b = distinct_apart s (child_handing ls fs t value i).moved
      (moved_of (plan_from ls fs t value (suc i) n)) d
      (subst (λ z. In s (child_handing ls fs t value z).moved) {x = i + 0} {y = i} (omega arith) a)
      (moved_back ls fs t value (suc i) n k s (omega (arith, h))
      (subst (λ z. In s (child_handing ls fs t value z).moved) {x = i + suc k} {y = suc i + k} (omega arith) b))
  once_from i (suc n) (suc j) (suc k) s l h d a b = once_from (suc i) n j k s (omega (arith, l)) (omega (arith, h))
      (distinct_back (child_handing ls fs t value i).moved
      (moved_of (plan_from ls fs t value (suc i) n)) d)
      (subst (λ z. In s (child_handing ls fs t value z).moved) {x = i + suc j} {y = suc i + j} (omega arith) a)
      (subst (λ z. In s (child_handing ls fs t value z).moved) {x = i + suc k} {y = suc i + k} (omega arith) b)

  once_at : (n j k : ℕ) (s : Spot) → j < k → k < n → IsDistinct
      (moved_of (plan_from ls fs t value 0 n))
      → In s (child_handing ls fs t value j).moved → In s (child_handing ls fs t value k).moved → ⊥
  once_at n j k s l h d a b = once_from 0 n j k s l h d
      (subst (λ z. In s (child_handing ls fs t value z).moved) {x = j} {y = 0 + j} (omega arith) a)
      (subst (λ z. In s (child_handing ls fs t value z).moved) {x = k} {y = 0 + k} (omega arith) b)

  -- no two children get one spot moved
  pub once : (n j k : ℕ) (s : Spot) → j ≢ k → j < n → k < n → IsDistinct
      (moved_of (plan_from ls fs t value 0 n))
      → In s (child_handing ls fs t value j).moved → In s (child_handing ls fs t value k).moved → ⊥
  once n j k s apart lj lk d a b = go (less_same_or_more j k)
    where
      go : (j < k) ⊎ ((j ≡ k) ⊎ (k < j)) → ⊥
      go (inl l) = once_at n j k s l lk d a b
      go (inr (inl e)) = apart e
      go (inr (inr l)) = once_at n k j s l lj d b a

  shared_back : (i n j : ℕ) (s : Spot) → j < n → In s (child_handing ls fs t value (i + j)).shared
      → In s (shared_of (plan_from ls fs t value i n))
  shared_back i zero j s lt h = absurd (omega (arith, lt))
  shared_back i (suc n) zero s lt h = in_front s (child_handing ls fs t value i).shared
      (shared_of (plan_from ls fs t value (suc i) n))
      (subst (λ z. In s (child_handing ls fs t value z).shared) {x = i + 0} {y = i} (omega arith) h)
  shared_back i (suc n) (suc j) s lt h = in_back s (child_handing ls fs t value i).shared
      (shared_of (plan_from ls fs t value (suc i) n))
      (shared_back (suc i) n j s (omega (arith, lt))
      (subst (λ z. In s (child_handing ls fs t value z).shared) {x = i + suc j} {y = suc i + j} (omega arith) h))

  pub shared_at : (n j : ℕ) (s : Spot) → j < n → In s (child_handing ls fs t value j).shared
      → In s (shared_of (plan_from ls fs t value 0 n))
  shared_at n j s lt h = shared_back 0 n j s lt
      (subst (λ z. In s (child_handing ls fs t value z).shared) {x = j} {y = 0 + j} (omega arith) h)
