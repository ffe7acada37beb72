-- The seats of a room with three seats, and of one with a single seat, each at its place.
use Rattle.std.proofs.Common.{◌≡◌, ℕ, zero, suc, List, [], ◌∷◌, length, subst, sym, Some, slice_get}

in_three : {X : Type 0} (P : ℕ → X → Type 0) (a b c : X) → P 0 a → P 1 b → P 2 c → (k : ℕ) (t : X)
    → slice_get (a ∷ b ∷ c ∷ []) k ≡ Some t → P k t
in_three P a b c p q r zero t e = let same : a ≡ t = cc e in subst (P 0) same p
in_three P a b c p q r (suc zero) t e = let same : b ≡ t = cc e in subst (P 1) same q
in_three P a b c p q r (suc (suc zero)) t e = let same : c ≡ t = cc e in subst (P 2) same r
in_three P a b c p q r (suc (suc (suc k))) t e = absurd (cc e)

pub all_three : {X : Type 0} (P : ℕ → ℕ → X → Type 0) (a b c : X) (items : List X) → items ≡ a ∷ b ∷ c ∷ [] → P 3 0 a
    → P 3 1 b → P 3 2 c → (k : ℕ) (t : X) → slice_get items k ≡ Some t → P (length items) k t
all_three {X} P a b c items is p q r = subst
    (λ (l : List X). (k : ℕ) (t : X) → slice_get l k ≡ Some t → P (length l) k t) (sym is) (in_three (P 3) a b c p q r)

in_one : {X : Type 0} (P : ℕ → X → Type 0) (a : X) → P 0 a → (k : ℕ) (t : X) → slice_get (a ∷ []) k ≡ Some t → P k t
in_one P a p zero t e = let same : a ≡ t = cc e in subst (P 0) same p
in_one P a p (suc k) t e = absurd (cc e)

pub all_one : {X : Type 0} (P : ℕ → ℕ → X → Type 0) (a : X) (items : List X) → items ≡ a ∷ [] → P 1 0 a
    → (k : ℕ) (t : X) → slice_get items k ≡ Some t → P (length items) k t
all_one {X} P a items is p = subst (λ (l : List X). (k : ℕ) (t : X) → slice_get l k ≡ Some t → P (length l) k t)
    (sym is) (in_one (P 1) a p)
