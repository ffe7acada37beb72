-- Members of lists of numbers: of a list of two parts, and at a place.
use Rattle.std.proofs.Common.{◌≡◌, List, inl, inr, ℕ, ◌++◌, ◌∷◌, ⊎_elim, ◌⊎◌, Some, suc, sym, zero, []}
use Rattle.std.proofs.lemmas.Option.{same_Some}
use Rattle.std.specs.Prelude.{slice_get}
use Rattle.sp_tree.specs.Interference.{IsMember}

-- what is in the front is in the whole
pub member_front : (x : ℕ) (ys zs : List ℕ) → IsMember x ys → IsMember x (ys ++ zs)
member_front x [] zs h = absurd h
member_front x (y ∷ ys) zs (inl e) = inl e
member_front x (y ∷ ys) zs (inr h) = inr (member_front x ys zs h)

-- what is in the back is in the whole
pub member_back : (x : ℕ) (ys zs : List ℕ) → IsMember x zs → IsMember x (ys ++ zs)
member_back x [] zs h = h
member_back x (y ∷ ys) zs h = inr (member_back x ys zs h)

-- what is in the whole is in one of its parts
pub member_either : (x : ℕ) (ys zs : List ℕ) → IsMember x (ys ++ zs) → IsMember x ys ⊎ IsMember x zs
member_either x [] zs h = inr h
member_either x (y ∷ ys) zs (inl e) = inl (inl e)
member_either x (y ∷ ys) zs (inr h) = ⊎_elim (λ k. inl (inr k)) (λ k. inr k) (member_either x ys zs h)

-- what stands at a place is in the list
pub member_at : (xs : List ℕ) (n x : ℕ) → slice_get xs n ≡ Some x → IsMember x xs
member_at [] n x e = absurd (cc e)
member_at (y ∷ xs) zero x e = inl (sym (same_Some _ _ e))
member_at (y ∷ xs) (suc n) x e = inr (member_at xs n x e)
