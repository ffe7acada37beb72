-- The variables of a set, found one after the other.
use Rattle.std.proofs.Common.{◌≡◌, ℕ, zero, suc, ◌+◌, ◌<◌, ◌≤◌, true, false, cond, [], ◌∷◌, ◌++◌, ◌⊎◌, inl, inr, refl}
use Rattle.std.proofs.Common.{ap, ◌∙◌, arith}
use Rattle.std.proofs.lemmas.Bool.{cases_lt}
use Rattle.sp_varsets.specs.Members.{has, IsNextMember}
use Rattle.sp_varsets.specs.declared.var_set.VarSet.{VarSet}
use Rattle.sp_varsets.specs.SetsText.{members}

module _ (v : VarSet) where
  no_more : (n : ℕ) → has v n ≡ false → members v (suc n) ≡ members v n
  no_more n e = ap (λ b. cond b (members v n ++ n ∷ []) (members v n)) e

  one_more : (n : ℕ) → has v n ≡ true → members v (suc n) ≡ members v n ++ n ∷ []
  one_more n e = ap (λ b. cond b (members v n ++ n ∷ []) (members v n)) e

  -- none between
  pub gap : (from to : ℕ) → from ≤ to → ((x : ℕ) → from ≤ x → x < to → has v x ≡ false) → members v to ≡ members v from
  gap from zero h none = let e : 0 ≡ from = omega arith in ap (members v) e
  gap from (suc to) h none = by (cases_lt to from) (λ high. gap from to high (λ x l k. none x l (omega arith)))
    where
      by : (to < from) ⊎ (from ≤ to) → (from ≤ to → members v to ≡ members v from) → members v (suc to) ≡ members v from
      by (inl low) rest = let e : suc to ≡ from = omega arith in ap (members v) e
      by (inr high) rest = no_more to (none to high (omega arith)) ∙ rest high

  -- the next one
  pub found : (from x : ℕ) → IsNextMember v from x → members v (x + 1) ≡ members v from ++ x ∷ []
  found from x (low, is, none) = ap (members v) next ∙ (one_more x is ∙ ap (λ xs. xs ++ x ∷ []) (gap from x low none))
    where
      next : x + 1 ≡ suc x
      next = omega arith

  -- the next one stands past the end
  pub past : (from x to : ℕ) → from ≤ to → to ≤ x → IsNextMember v from x → members v to ≡ members v from
  past from x to h k (low, is, none) = gap from to h (λ y l m. none y l (omega arith))

pub same_members : (v w : VarSet) → ((x : ℕ) → has v x ≡ has w x) → (n : ℕ) → members v n ≡ members w n
same_members v w same zero = refl
same_members v w same (suc n) = ap (λ b. cond b (members v n ++ n ∷ []) (members v n)) (same n)
    ∙ ap (λ xs. cond (has w n) (xs ++ n ∷ []) xs) (same_members v w same n)
