-- Some of this belongs to what the program promises (docs/promise.txt).
-- What is told of the bytes that the outside holds, gives or gets. The traits `Source` and `Sink` and all that read
-- and write through them cite it. A real stream tells nothing (`None`), so each clause holds of it too.
use Rattle.std.specs.Prelude.{◌≡◌, ℕ, List, [], ◌++◌, Option, None, Some}
use Rattle.std.proofs.Common.{refl, sym, ◌∙◌, ap, append_assoc, append-nil}

-- where the bytes that were put are told, they grew by these. They may cease to be told, and are not told again
abbrev pub Grows : Option (List ℕ) → Option (List ℕ) → List ℕ → Type 0
Grows before None piece = Unit {0}
Grows None (Some all) piece = ⊥
Grows (Some put) (Some all) piece = all ≡ put ++ piece

-- nothing was put
pub grows_none : (told : Option (List ℕ)) → Grows told told []
grows_none None = tt
grows_none (Some put) = sym (append-nil put)

-- one piece after the other
pub grows_more : (a b c : Option (List ℕ)) (p q : List ℕ) → Grows a b p → Grows b c q → Grows a c (p ++ q)
grows_more a b None p q g h = tt
grows_more a None (Some z) p q g h = absurd h
grows_more None (Some y) (Some z) p q g h = absurd g
grows_more (Some x) (Some y) (Some z) p q g h = h ∙ ap (λ v. v ++ q) g ∙ append_assoc x p q

-- the bytes that were left are these and then those that are left now. What is not told stays so
abbrev pub Shrinks : Option (List ℕ) → Option (List ℕ) → List ℕ → Type 0
Shrinks None None taken = Unit {0}
Shrinks None (Some rest) taken = ⊥
Shrinks (Some left) None taken = ⊥
Shrinks (Some left) (Some rest) taken = left ≡ taken ++ rest

-- nothing is left, where it is told
abbrev pub IsAtEnd : Option (List ℕ) → Type 0
IsAtEnd None = Unit {0}
IsAtEnd (Some left) = left ≡ []

-- nothing was taken
pub shrinks_none : (left : Option (List ℕ)) → Shrinks left left []
shrinks_none None = tt
shrinks_none (Some xs) = refl

-- one piece after the other
pub shrinks_more : (a b c : Option (List ℕ)) (p q : List ℕ) → Shrinks a b p → Shrinks b c q → Shrinks a c (p ++ q)
shrinks_more None None None p q g h = tt
shrinks_more None None (Some z) p q g h = absurd h
shrinks_more None (Some y) c p q g h = absurd g
shrinks_more (Some x) None c p q g h = absurd g
shrinks_more (Some x) (Some y) None p q g h = absurd h
shrinks_more (Some x) (Some y) (Some z) p q g h = g ∙ ap (λ v. p ++ v) h ∙ sym (append_assoc p q z)
