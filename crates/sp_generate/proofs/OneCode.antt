-- A program has one code.
use Rattle.std.proofs.Common.{◌≡◌, ◌⊎◌, inl, inr, ℕ, List, [], ◌∷◌, refl, sym, ◌∙◌, arith}
use Rattle.sp_tree.specs.Plain.{Program, Stmt}
use Rattle.sp_tree.specs.Interference.{IsMember}
use Rattle.sp_code.specs.declared.code.Parts.{Parts}
use Rattle.sp_code.specs.TreeCode.{program_code}
use Rattle.sp_generate.specs.Handings.{IsInOrder}
use Rattle.sp_generate.specs.GeneratorAnswers.{Handing, IsCodeOf}

-- all of one list stand in the other
abbrev IsSubset : List ℕ → List ℕ → Type 0
IsSubset xs ys = (z : ℕ) → IsMember z xs → IsMember z ys

-- the first of two lists in order, with the same numbers
first_same : (x y : ℕ) (xs ys : List ℕ) → IsInOrder (x ∷ xs) → IsInOrder (y ∷ ys) → IsSubset (x ∷ xs) (y ∷ ys)
    → IsSubset (y ∷ ys) (x ∷ xs) → x ≡ y
first_same x y xs ys ox oy f g = go (f x (inl refl)) (g y (inl refl))
  where
    go : IsMember x (y ∷ ys) → IsMember y (x ∷ xs) → x ≡ y
    go (inl e) k = e
    go (inr m) (inl e) = sym e
    go (inr m) (inr k) = let a = oy.0 x m in let b = ox.0 y k in omega (arith, a, b)

-- the numbers behind the first
behind : (x y : ℕ) (xs ys : List ℕ) → x ≡ y → IsInOrder (x ∷ xs) → IsSubset (x ∷ xs) (y ∷ ys) → IsSubset xs ys
behind x y xs ys same ox f z m = go (f z (inr m))
  where
    go : IsMember z (y ∷ ys) → IsMember z ys
    go (inl e) = let low = ox.0 z m in absurd (omega (arith, low, e, same))
    go (inr k) = k

in_order_same : (xs ys : List ℕ) → IsInOrder xs → IsInOrder ys → IsSubset xs ys → IsSubset ys xs → xs ≡ ys
in_order_same [] [] ox oy f g = refl
in_order_same [] (y ∷ ys) ox oy f g = absurd (g y (inl refl))
in_order_same (x ∷ xs) [] ox oy f g = absurd (f x (inl refl))
in_order_same (x ∷ xs) (y ∷ ys) ox oy f g =
    let same = first_same x y xs ys ox oy f g in
    let rest = in_order_same xs ys ox.1 oy.1 (behind x y xs ys same ox f) (behind y x ys xs (sym same) oy g) in
    λ i. same i ∷ rest i

module _ (p : Program) where
  one_moved : (h k : Handing p) (s : Stmt) → IsSubset (h.moves s) (k.moves s)
  one_moved h k s z m = k.are.moved s z (h.are.moved_only s z m)

  one_shared : (h k : Handing p) (s : Stmt) → IsSubset (h.shares s) (k.shares s)
  one_shared h k s z m = go (k.are.shared s z (h.are.shared_only s z m))
    where
      go : IsMember z (k.moves s) ⊎ IsMember z (k.shares s) → IsMember z (k.shares s)
      go (inl n) = absurd (h.are.apart s z (one_moved k h s z n) m)
      go (inr n) = n

  pub one_code : (a b : Parts) → IsCodeOf p a → IsCodeOf p b → a ≡ b
  one_code a b (h, e) (k, o) =
      let moves = λ (s : Stmt). in_order_same (h.moves s) (k.moves s) (h.moves_in_order s) (k.moves_in_order s)
      (one_moved h k s) (one_moved k h s) in
      let shares = λ (s : Stmt). in_order_same (h.shares s) (k.shares s) (h.shares_in_order s) (k.shares_in_order s)
      (one_shared h k s) (one_shared k h s) in
      e ∙ (λ i. program_code p (λ s. moves s i) (λ s. shares s i)) ∙ sym o
