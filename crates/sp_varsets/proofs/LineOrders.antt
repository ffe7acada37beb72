-- The orders of lines and of variables are total, and a list has one order by each.
use Rattle.std.proofs.Common.{◌≡◌, ℕ, suc, ◌+◌, ◌<◌, false, cond, List, [], ◌∷◌, length, get_or, Option, Some, None}
use Rattle.std.proofs.Common.{refl, sym, ap, ◌∙◌, subst, arith}
use Rattle.std.specs.Prelude.{T}
use Rattle.std.specs.List.{AllByRecursion, sum_by}
use Rattle.std.specs.List.Sorted.{IsSortedBy}
use Rattle.std.specs.Ordering.{nat_cmp, ordering_reverse, is_lt, is_eq}
use Rattle.std.specs.declared.cmp.Ordering.{Ordering}
use Rattle.std.specs.declared.cmp.Ordering.TheVariants.{Less, Equal, Greater}
use Rattle.std.specs.Cmp.{IsTotalOrder, IsStrictWeakOrder, then_total, on_total, nat_cmp_total}
use Rattle.std.specs.FinMap.{nat_cmp-IsAntisymmetric}
use native.Mathlib.Numerals.{unary_clauses}
use Rattle.std.proofs.lemmas.List.Elements.{All-from_get_or, recursion_from_All}
use Rattle.std.proofs.lemmas.List.Sorted.{ranks_by, sorted_far, sum_by-IsPermutation}
use Rattle.std.proofs.lemmas.List.Sums.{sum_by-cons}
use Rattle.sp_base.specs.declared.place.Place.{Place}
use Rattle.sp_base.specs.Order.{both_tie}
use Rattle.sp_varsets.specs.declared.sets_line.SetsLine.{SetsLine}
use Rattle.sp_varsets.specs.TextOrders.{IsInOrder, line_cmp, part_number, place_cmp, place_of_variable, variable_cmp}
use Rattle.sp_tree.specs.declared.checked.Variable.{Variable}

-- ---- total orders

pub place_total : IsTotalOrder place_cmp
place_total = then_total (on_total (λ (p : Place). p.line) nat_cmp_total)
    (on_total (λ (p : Place). p.column) nat_cmp_total)

pub line_total : IsTotalOrder line_cmp
line_total = then_total (on_total (λ (l : SetsLine). l.at) place_total)
    (then_total (on_total (λ (l : SetsLine). part_number l.part) nat_cmp_total)
    (on_total (λ (l : SetsLine). l.statement) nat_cmp_total))

pub variable_total : (vs : List Variable) → IsTotalOrder (variable_cmp vs)
variable_total vs = then_total (on_total (place_of_variable vs) place_total) nat_cmp_total

pub ranks : {X : Type 0} (cmp : X → X → Ordering) → IsTotalOrder cmp → IsStrictWeakOrder (λ a b. is_lt (cmp a b))
ranks cmp o = ranks_by o (λ x. x)

-- ---- what ties is one thing

same_place : (p q : Place) → place_cmp p q ≡ Equal → p ≡ q
same_place p q e =
    let x = both_tie (nat_cmp p.line q.line) (nat_cmp p.column q.column) e in
    let l = nat_cmp-IsAntisymmetric p.line q.line x.0 in
    let c = nat_cmp-IsAntisymmetric p.column q.column x.1 in
    λ i. record { line = l i; column = c i }

same_part : (a b : Option ℕ) → part_number a ≡ part_number b → a ≡ b
same_part None None e = refl
same_part None (Some k) e = absurd (omega arith)
same_part (Some k) None e = absurd (omega arith)
same_part (Some j) (Some k) e = ap Some (let h : j + 1 ≡ k + 1 = e in omega arith)

pub same_line : (a b : SetsLine) → line_cmp a b ≡ Equal → a ≡ b
same_line a b e =
    let x = both_tie (place_cmp a.at b.at) _ e in
    let y = both_tie (nat_cmp (part_number a.part) (part_number b.part)) (nat_cmp a.statement b.statement) x.1 in
    let p = same_place a.at b.at x.0 in
    let k = same_part a.part b.part (nat_cmp-IsAntisymmetric (part_number a.part) (part_number b.part) y.0) in
    let n = nat_cmp-IsAntisymmetric a.statement b.statement y.1 in
    λ i. record { at = p i; part = k i; statement = n i }

pub same_variable : (vs : List Variable) (x y : ℕ) → variable_cmp vs x y ≡ Equal → x ≡ y
same_variable vs x y e =
    nat_cmp-IsAntisymmetric x y (both_tie (place_cmp (place_of_variable vs x) (place_of_variable vs y))
    (nat_cmp x y) e).1

-- ---- one order

module _ {X : Type 0} (cmp : X → X → Ordering) (total : IsTotalOrder cmp)
    (tie : (x y : X) → cmp x y ≡ Equal → x ≡ y) where
  abbrev Ascends : List X → Type 0
  Ascends [] = Unit {0}
  Ascends (x ∷ xs) = AllByRecursion (λ y. is_lt (cmp y x) ≡ false) xs × Ascends xs

  behind : (x : X) (xs : List X) → IsSortedBy (λ a b. is_lt (cmp a b)) (x ∷ xs)
      → AllByRecursion (λ y. is_lt (cmp y x) ≡ false) xs
  behind x xs up = recursion_from_All (λ y. is_lt (cmp y x) ≡ false) xs
      (All-from_get_or (λ y. is_lt (cmp y x) ≡ false) xs x
      (λ i h. sorted_far (λ a b. is_lt (cmp a b)) (ranks cmp total) (x ∷ xs) up 0 (suc i) x (omega arith)
      (let low : i < length xs = h in let g : length (x ∷ xs) ≡ suc (length xs) = refl in omega arith)))

  ascends : (xs : List X) → IsSortedBy (λ a b. is_lt (cmp a b)) xs → Ascends xs
  ascends [] up = tt
  ascends (x ∷ xs) up = (
    behind x xs up,
    ascends xs (λ k d low high.
        let next : suc k ≡ k + 1 = omega arith in
        let g : length (x ∷ xs) ≡ suc (length xs) = refl in
        subst (λ n. is_lt (cmp (get_or xs n d) (get_or xs k d)) ≡ false) next
        (simp unary_clauses at (up (suc k) d (omega arith) (omega arith)))),
  )

  -- how often an element stands in a list
  abbrev one : X → X → ℕ
  one k x = cond (is_eq (cmp x k)) 1 0

  abbrev count : X → List X → ℕ
  count k [] = 0
  count k (x ∷ xs) = one k x + count k xs

  count_is : (k : X) (xs : List X) → sum_by (one k) xs ≡ count k xs
  count_is k [] = refl
  count_is k (x ∷ xs) = sum_by-cons (one k) x xs ∙ ap (λ n. one k x + n) (count_is k xs)

  self_tie : (x : X) → cmp x x ≡ Equal
  self_tie x = by (cmp x x) (total.antisymm x x)
    where
      by : (r : Ordering) → r ≡ ordering_reverse r → r ≡ Equal
      by Less e = absurd (subst (λ o. T (is_lt o)) e tt)
      by Equal e = refl
      by Greater e = absurd (subst (λ o. T (is_lt o)) (sym e) tt)

  one_self : (x : X) → one x x ≡ 1
  one_self x = ap (λ r. cond (is_eq r) 1 0) (self_tie x)

  -- of what is less than all elements there is none
  less_than : (k x y : X) → cmp k x ≡ Less → is_lt (cmp y x) ≡ false → cmp y k ≡ Equal → ⊥
  less_than k x y h g e = absurd (subst T (sym (ap is_lt (total.congr y k x e ∙ h)) ∙ g) tt)

  none : (k x : X) (xs : List X) → cmp k x ≡ Less → AllByRecursion (λ y. is_lt (cmp y x) ≡ false) xs → count k xs ≡ 0
  none k x [] h all = refl
  none k x (y ∷ ys) h (g, all) = by (cmp y k) refl (none k x ys h all)
    where
      by : (r : Ordering) → cmp y k ≡ r → count k ys ≡ 0 → count k (y ∷ ys) ≡ 0
      by Less e rest = let z : one k y ≡ 0 = ap (λ r. cond (is_eq r) 1 0) e in
          let all : one k y + count k ys ≡ 0 = omega arith in all
      by Equal e rest = absurd (less_than k x y h g e)
      by Greater e rest = let z : one k y ≡ 0 = ap (λ r. cond (is_eq r) 1 0) e in
          let all : one k y + count k ys ≡ 0 = omega arith in all

  none_at : (k x : X) (xs : List X) → cmp k x ≡ Less → Ascends (x ∷ xs) → count k (x ∷ xs) ≡ 0
  none_at k x xs h (all, up) = none k x (x ∷ xs) h (ap is_lt (self_tie x), all)

  some_at : (x : X) (xs : List X) → count x (x ∷ xs) ≡ 1 + count x xs
  some_at x xs = ap (λ n. n + count x xs) (one_self x)

  pub once : (xs ys : List X) → Ascends xs → Ascends ys → ((k : X) → count k xs ≡ count k ys) → xs ≡ ys
  once [] [] up vp c = refl
  once [] (y ∷ ys) up vp c = absurd (let e = c y ∙ some_at y ys in let h : 0 ≡ 1 + count y ys = e in omega arith)
  once (x ∷ xs) [] up vp c = absurd (let e = sym (some_at x xs) ∙ c x in let h : 1 + count x xs ≡ 0 = e in omega arith)
  once (x ∷ xs) (y ∷ ys) up vp c = by (cmp x y) refl (λ tails. once xs ys up.1 vp.1 tails)
    where
      tails : x ≡ y → (k : X) → count k xs ≡ count k ys
      tails e k = let h : one k x + count k xs ≡ one k x + count k ys = c k ∙ ap (λ z. one k z + count k ys) (sym e) in
          omega arith

      by : (r : Ordering) → cmp x y ≡ r → (((k : X) → count k xs ≡ count k ys) → xs ≡ ys) → x ∷ xs ≡ y ∷ ys
      by Less e rest = absurd (let h : 1 + count x xs ≡ 0 = sym (some_at x xs) ∙ (c x ∙ none_at x y ys e vp) in
          omega arith)
      by Equal e rest = let same = tie x y e in ap (λ z. z ∷ xs) same ∙ ap (λ zs. y ∷ zs) (rest (tails same))
      by Greater e rest = absurd (let h : 0 ≡ 1 + count y ys =
          sym (none_at y x xs (total.antisymm y x ∙ ap ordering_reverse e) up) ∙ (c y ∙ some_at y ys) in omega arith)

  pub one_order : (zs xs ys : List X) → IsInOrder cmp zs xs → IsInOrder cmp zs ys → xs ≡ ys
  one_order zs xs ys (p, up) (q, vp) = once xs ys (ascends xs up) (ascends ys vp)
      (λ k. sym (count_is k xs) ∙ (sum_by-IsPermutation (one k) zs xs p
      ∙ (sym (sum_by-IsPermutation (one k) zs ys q) ∙ count_is k ys)))
