-- Members of lists of numbers: where they stand, and what is above them.
use Rattle.std.proofs.Common.{◌≡◌, Bool, List, None, Some, eqb-true, false, inl, inr, refl, suc, true, ℕ, ◌==◌, ◌∷◌}
use Rattle.std.proofs.Common.{arith, ◌<◌, ◌≤◌, [], if◌then◌else◌}
use Rattle.sp_tree.specs.Interference.{IsMember}
use Rattle.sp_cell.specs.Frame.{least_above}
use Rattle.sp_code.specs.System.{place_of}

-- what is not in a list has no place in it
pub place_none : (x n : ℕ) (xs : List ℕ) → (IsMember x xs → ⊥) → place_of x n xs ≡ None
place_none x n [] h = refl
place_none x n (z ∷ xs) h = go (x == z) refl (place_none x (suc n) xs (λ i. h (inr i)))
  where
    go : (b : Bool) → x == z ≡ b → place_of x (suc n) xs ≡ None → (if b then Some n else place_of x (suc n) xs) ≡ None
    go true e ih = absurd (h (inl (eqb-true x z e)))
    go false e ih = ih

-- what is above all members is not below their bound
pub above_members : (ns : List ℕ) (b : ℕ) → ((n : ℕ) → IsMember n ns → n < b) → least_above ns ≤ b
above_members [] b h = omega arith
above_members (n ∷ ns) b h = omega (arith, h n (inl refl), above_members ns b (λ k i. h k (inr i)))

-- a member is below the bound
pub member_above : (ns : List ℕ) (n : ℕ) → IsMember n ns → n < least_above ns
member_above [] n i = absurd i
member_above (x ∷ ns) n (inl e) = omega (arith, e)
member_above (x ∷ ns) n (inr i) = omega (arith, member_above ns n i)
