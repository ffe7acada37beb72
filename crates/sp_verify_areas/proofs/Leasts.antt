-- Least numbers of sums, of equal facts, and of items one after the other.
use Rattle.std.proofs.Common.{◌≡◌, ◌⊎◌, inl, inr, ⊎_elim, refl, subst, ℕ, ◌+◌, ◌<◌, Bool, true, false, if◌then◌else◌}
use Rattle.std.proofs.Common.{Option, Some, None, arith}
use Rattle.std.specs.Prelude.{nat_lt}
use Rattle.sp_verify_areas.specs.LeastPlaces.{IsLeast, earlier_of, Upto}

-- what holds at the same numbers has the same least one
pub least_of_same : (P Q : ℕ → Type 0) (o : Option ℕ) → ((p : ℕ) → P p → Q p) → ((p : ℕ) → Q p → P p) → IsLeast P o
    → IsLeast Q o
least_of_same P Q None f g h = λ p q. h p (g p q)
least_of_same P Q (Some n) f g h = (f n h.0, λ p l q. h.1 p l (g p q))

-- of two facts, one or the other
pub both : (P Q : ℕ → Type 0) (a b : Option ℕ) → IsLeast P a → IsLeast Q b → IsLeast (λ p. P p ⊎ Q p) (earlier_of a b)
both P Q None None h k = λ p z. ⊎_elim (h p) (k p) z
both P Q None (Some n) h k = (inr k.0, λ p l z. ⊎_elim (h p) (k.1 p l) z)
both P Q (Some m) None h k = (inl h.0, λ p l z. ⊎_elim (h.1 p l) (k p) z)
both P Q (Some m) (Some n) h k = go (nat_lt n m) refl
  where
    go : (t : Bool) → nat_lt n m ≡ t → IsLeast (λ p. P p ⊎ Q p) (Some (if t then n else m))
    go true e = (inr k.0, λ p l z. ⊎_elim (h.1 p (Prim.grind (arith, e, l))) (k.1 p l) z)
    go false e = (inl h.0, λ p l z. ⊎_elim (h.1 p l) (k.1 p (Prim.grind (arith, e, l))) z)

-- of no items
pub none : (R : ℕ → ℕ → Type 0) → IsLeast (Upto R 0) None
none R = λ p u. absurd (omega (arith, u.below))

-- of one more item
pub more : (R : ℕ → ℕ → Type 0) (n : ℕ) (a b : Option ℕ) → IsLeast (Upto R n) a → IsLeast (R n) b
    → IsLeast (Upto R (n + 1)) (earlier_of a b)
more R n a b h k = least_of_same (λ p. Upto R n p ⊎ R n p) (Upto R (n + 1)) (earlier_of a b) up down
    (both (Upto R n) (R n) a b h k)
  where
    up : (p : ℕ) → Upto R n p ⊎ R n p → Upto R (n + 1) p
    up p (inl u) = record { item = u.item; below = omega (arith, u.below); holds = u.holds }
    up p (inr r) = record { item = n; below = omega arith; holds = r }

    at : (p i : ℕ) → R i p → (i < n) ⊎ (i ≡ n) → Upto R n p ⊎ R n p
    at p i r (inl l) = inl (record { item = i; below = l; holds = r })
    at p i r (inr e) = inr (subst (λ j. R j p) e r)

    split : (i : ℕ) → i < n + 1 → (i < n) ⊎ (i ≡ n)
    split i l = go (nat_lt i n) refl
      where
        go : (t : Bool) → nat_lt i n ≡ t → (i < n) ⊎ (i ≡ n)
        go true e = inl (Prim.grind (arith, e))
        go false e = inr (Prim.grind (arith, e, l))

    down : (p : ℕ) → Upto R (n + 1) p → Upto R n p ⊎ R n p
    down p u = at p u.item u.holds (split u.item u.below)

-- of all items
pub all : (R : ℕ → ℕ → Type 0) (Q : ℕ → Type 0) (n : ℕ) (o : Option ℕ) → ((j p : ℕ) → R j p → Q p)
    → ((p : ℕ) → Q p → Upto R n p) → IsLeast (Upto R n) o → IsLeast Q o
all R Q n o f g h = least_of_same (Upto R n) Q o (λ p u. f u.item p u.holds) g h
