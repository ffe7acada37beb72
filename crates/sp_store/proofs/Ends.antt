-- Lists at their end: an item put there, and a part that reaches it.
use Rattle.std.proofs.Common.{◌≡◌, ℕ, zero, suc, List, [], ◌∷◌, ◌++◌, length, take, drop, refl, ap, sym, ◌∙◌, arith}
use Rattle.std.proofs.Common.{append-nil}
use Rattle.std.specs.List.{insert}

pub insert_last : {X : Type 0} (xs : List X) (x : X) (k : ℕ) → k ≡ length xs → xs ++ x ∷ [] ≡ insert xs k x
insert_last [] x zero e = refl
insert_last [] x (suc k) e = refl
insert_last (y ∷ xs) x zero e = absurd (omega (arith, e))
insert_last (y ∷ xs) x (suc k) e = ap (λ zs. y ∷ zs) (insert_last xs x k (omega (arith, e)))

drop_end : {X : Type 0} (xs : List X) (b : ℕ) → b ≡ length xs → drop b xs ≡ []
drop_end [] zero e = refl
drop_end [] (suc b) e = refl
drop_end (x ∷ xs) zero e = absurd (omega (arith, e))
drop_end (x ∷ xs) (suc b) e = drop_end xs b (omega (arith, e))

pub cut_end : {X : Type 0} (xs : List X) (a b : ℕ) → b ≡ length xs → take a xs ≡ take a xs ++ drop b xs
cut_end xs a b e = sym (ap (λ ys. take a xs ++ ys) (drop_end xs b e) ∙ append-nil (take a xs))
