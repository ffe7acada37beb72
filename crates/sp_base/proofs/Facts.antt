-- Small facts of numbers, booleans, options and lists that many proofs use and the standard library has not.
use Rattle.std.proofs.Common.{◌≡◌, ◌≢◌, ◌⊎◌, inl, inr, ⊎_elim, ℕ, zero, suc, ◌+◌, ◌<◌, ◌≤◌, ◌==◌, refl, sym, ap, ◌∙◌}
use Rattle.std.proofs.Common.{Bool, true, false, true≢false, ◌&&◌, ◌||◌, not, nat_lt, nat_eq, arith}
use Rattle.std.proofs.Common.{List, [], ◌∷◌, ◌++◌, length, map, slice_get, slice_set, Option, Some, None, is_some}
use Rattle.std.proofs.Common.{Err, Ok, Result, ℤ, get_or}
use Rattle.std.specs.declared.cmp.Ordering.{Ordering}
use Rattle.std.specs.declared.cmp.Ordering.TheVariants.{Less, Equal, Greater}
use Rattle.std.specs.Ordering.{nat_cmp, ordering_then, is_eq}
use Rattle.std.proofs.lemmas.Bool.{or_left, or_right}
use Rattle.std.proofs.lemmas.Bool.Decides.{nat_tests}
use Rattle.std.specs.Result.{OnOk}
use Rattle.std.proofs.lemmas.List.{length-append}
use Rattle.std.specs.Prelude.{take, ◌-◌, int_le, pos, ◌-ℤ◌, sum, min}
use Rattle.std.proofs.Math.Seq.{take-append_seam}
use Rattle.std.proofs.lemmas.List.Sums.{sum-map, sum_by-cons}
use Rattle.std.proofs.lemmas.Option.{slice_get-get_or}
use Rattle.std.specs.Str.{bytes_eq}
use Rattle.std.proofs.lemmas.Slice.Eq.{bytes_eq-Decides}

-- a number is itself with nothing added after it
pub is_plus_none : (n : ℕ) → n ≡ n + 0
is_plus_none n = omega arith

-- a number is itself with nothing before it
pub is_none_plus : (n : ℕ) → n ≡ 0 + n
is_none_plus n = omega arith

-- what is one more on the left may be one more on the right
pub next_goes_right : (n k : ℕ) → suc n + k ≡ n + suc k
next_goes_right n k = omega arith

-- what is one more on the right may be one more on the left
pub next_goes_left : (n k : ℕ) → n + suc k ≡ suc n + k
next_goes_left n k = omega arith

-- what is below one more is below, or the last
pub below_or_last : (k n : ℕ) → k < n + 1 → (k < n) ⊎ (k ≡ n)
below_or_last k n l = go (nat_lt k n) refl
  where
    go : (t : Bool) → nat_lt k n ≡ t → (k < n) ⊎ (k ≡ n)
    go true e = inl (Prim.grind (arith, e))
    go false e = inr (Prim.grind (arith, e, l))

-- what is below the next is below, or the same
pub below_or_at : (k n : ℕ) → k < suc n → (k < n) ⊎ (k ≡ n)
below_or_at k n l = grind arith

-- a number is at most another, or past it
pub within_or_past : (a b : ℕ) → (a ≤ b) ⊎ (b < a)
within_or_past zero b = inl (omega arith)
within_or_past (suc a) zero = inr (omega arith)
within_or_past (suc a) (suc b) = ⊎_elim (λ (x : a ≤ b). inl (omega (arith, x)))
    (λ (x : b < a). inr (omega (arith, x))) (within_or_past a b)

-- a number is below two, or not
pub below_two_or_not : (x : ℕ) → (x < 2) ⊎ (2 ≤ x)
below_two_or_not zero = inl (omega arith)
below_two_or_not (suc zero) = inl (omega arith)
below_two_or_not (suc (suc x)) = inr (omega arith)

-- of two numbers one is less, or they are the same
pub less_same_or_more : (a b : ℕ) → (a < b) ⊎ ((a ≡ b) ⊎ (b < a))
less_same_or_more zero zero = inr (inl refl)
less_same_or_more zero (suc b) = inl (omega arith)
less_same_or_more (suc a) zero = inr (inr (omega arith))
less_same_or_more (suc a) (suc b) = ⊎_elim (λ h. inl (omega (arith, h)))
    (λ z. ⊎_elim (λ e. inr (inl (ap suc e))) (λ h. inr (inr (omega (arith, h)))) z) (less_same_or_more a b)

-- the same, with the two that differ first
pub less_more_or_same : (a b : ℕ) → (a < b) ⊎ ((b < a) ⊎ (a ≡ b))
less_more_or_same zero zero = inr (inr refl)
less_more_or_same zero (suc b) = inl (omega arith)
less_more_or_same (suc a) zero = inr (inl (omega arith))
less_more_or_same (suc a) (suc b) = ⊎_elim (λ (h : a < b). inl (omega (arith, h)))
    (λ h. ⊎_elim (λ (g : b < a). inr (inl (omega (arith, g)))) (λ (g : a ≡ b). inr (inr (ap suc g))) h)
    (less_more_or_same a b)

-- what is not above none is none
pub none_if_not_above : (n : ℕ) → nat_lt 0 n ≡ false → n ≡ 0
none_if_not_above n e = Prim.grind (arith, e)

-- what tests as less has its next within
pub next_is_within : (a b : ℕ) → nat_lt a b ≡ true → a + 1 ≤ b
next_is_within a b e = Prim.grind (arith, e)

-- a number tests as equal to itself
pub equals_itself : (n : ℕ) → n == n ≡ true
equals_itself n = grind (arith)

-- a comparison ties where the numbers are equal
pub tie_is_equal : (a b : ℕ) → is_eq (nat_cmp a b) ≡ nat_eq b a
tie_is_equal a b = grind (arith, nat_tests)

-- two comparisons, one after the other, tie where both do
pub tie_of_both : (x y : Ordering) → is_eq (ordering_then x y) ≡ (is_eq x && is_eq y)
tie_of_both Less y = refl
tie_of_both Equal y = refl
tie_of_both Greater y = refl

-- where both are true the first is
pub first_true : (a b : Bool) → (a && b) ≡ true → a ≡ true
first_true true b h = refl
first_true false b h = h

-- where both are true the second is
pub second_true : (a b : Bool) → (a && b) ≡ true → b ≡ true
second_true true b h = h
second_true false b h = absurd cc

-- where neither is true the first is false
pub first_false : (a b : Bool) → a || b ≡ false → a ≡ false
first_false true b h = h
first_false false b h = refl

-- where neither is true the second is false
pub second_false : (a b : Bool) → a || b ≡ false → b ≡ false
second_false true b h = absurd (let no : true ≡ false = h in cc)
second_false false b h = h

-- where one of two is true their disjunction is
pub or_from_either : (a b : Bool) → (a ≡ true) ⊎ (b ≡ true) → a || b ≡ true
or_from_either a b (inl h) = or_left a b h
or_from_either a b (inr h) = or_right a b h

-- what is true and not the other: the parts
pub and_not_parts : (a b : Bool) → a && not b ≡ true → (a ≡ true) × (b ≡ false)
and_not_parts true true h = absurd (let no : false ≡ true = h in cc)
and_not_parts true false h = (refl, refl)
and_not_parts false b h = absurd (let no : false ≡ true = h in cc)

-- what is true and not the other: from the parts
pub and_not_from : (a b : Bool) → a ≡ true → b ≡ false → a && not b ≡ true
and_not_from true true h n = absurd (let no : true ≡ false = n in cc)
and_not_from true false h n = refl
and_not_from false b h n = absurd (let no : false ≡ true = h in cc)

-- two tests that follow from each other are one
pub same_if_both_follow : (a b : Bool) → (a ≡ true → b ≡ true) → (b ≡ true → a ≡ true) → a ≡ b
same_if_both_follow true b p q = sym (p refl)
same_if_both_follow false true p q = q refl
same_if_both_follow false false p q = refl

-- `or` with false changes nothing
pub or_with_false : (a : Bool) → a || false ≡ a
or_with_false true = refl
or_with_false false = refl

-- the same, from the right to the left
pub is_or_false : (a : Bool) → a ≡ a || false
is_or_false true = refl
is_or_false false = refl

-- `or` with true is true
pub or_with_true : (a : Bool) → a || true ≡ true
or_with_true true = refl
or_with_true false = refl

-- `and` with false is false
pub and_with_false : (a : Bool) → (a && false) ≡ false
and_with_false true = refl
and_with_false false = refl

-- `and` with true changes nothing
pub and_with_true : (a : Bool) → (a && true) ≡ a
and_with_true true = refl
and_with_true false = refl

-- nothing is true and false
pub not_true_and_false : (a : Bool) → a ≡ true → a ≡ false → ⊥
not_true_and_false a e f = cc

-- what is not so is not so
pub not_refutes : (a : Bool) → not a ≡ true → a ≡ true → ⊥
not_refutes a h k = true≢false (sym h ∙ ap not k)

-- true is not false, for any conclusion
pub true_is_not_false : {A : Type 0} → ◌≡◌ {A = Bool} true false → A
true_is_not_false e = absurd (cc)

-- false is not true, for any conclusion
pub false_is_not_true : {A : Type 0} → ◌≡◌ {A = Bool} false true → A
false_is_not_true e = absurd (cc)

-- what tests as some has a value
pub value_if_some : {A : Type 0} (o : Option A) → is_some o ≡ true → (x : A) × (o ≡ Some x)
value_if_some None e = absurd cc
value_if_some (Some x) e = (x, refl)

-- an option has one value
pub one_value : {A : Type 0} {x y : A} (o : Option A) → o ≡ Some x → o ≡ Some y → x ≡ y
one_value o p q = cc

-- an option with a value is not none
pub some_is_not_none : {A B : Type 0} {x : A} (o : Option A) → o ≡ Some x → o ≡ None → B
some_is_not_none o p q = absurd cc

-- an empty list is none that has an item
pub nil_is_not_cons : {A : Type 0} {x : A} {xs : List A} → ◌≡◌ {A = List A} [] (x ∷ xs) → ⊥
nil_is_not_cons e = cc

-- a list with an item is not empty
pub cons_is_not_nil : {A : Type 0} {x : A} {xs : List A} → ◌≡◌ {A = List A} (x ∷ xs) [] → ⊥
cons_is_not_nil e = cc

-- lists that are the same have the same first item
pub same_head : {A : Type 0} {x y : A} {xs ys : List A} → ◌≡◌ {A = List A} (x ∷ xs) (y ∷ ys) → x ≡ y
same_head e = cc

-- lists that are the same are the same after the first item
pub same_tail : {A : Type 0} {x y : A} {xs ys : List A} → ◌≡◌ {A = List A} (x ∷ xs) (y ∷ ys) → xs ≡ ys
same_tail e = cc

-- an index within a list has its item
pub item_there : {A : Type 0} (xs : List A) (i : ℕ) → i < length xs → (x : A) × (slice_get xs i ≡ Some x)
item_there [] i h = absurd (omega arith)
item_there (x ∷ xs) zero h = (x, refl)
item_there (x ∷ xs) (suc i) h = item_there xs i (omega arith)

-- an index within a list is not without an item
pub item_is_not_none : {A : Type 0} (xs : List A) (i : ℕ) → i < length xs → slice_get xs i ≡ None → ⊥
item_is_not_none [] i l e = omega (arith, l)
item_is_not_none (x ∷ xs) zero l e = cc e
item_is_not_none (x ∷ xs) (suc i) l e = item_is_not_none xs i (omega (arith, l)) e

-- where an item was set it is
pub get_where_set : {A : Type 0} (xs : List A) (i : ℕ) (x : A) → i < length xs → slice_get (slice_set xs i x) i ≡ Some x
get_where_set [] i x h = absurd (omega arith)
get_where_set (y ∷ xs) zero x h = refl
get_where_set (y ∷ xs) (suc i) x h = get_where_set xs i x (omega arith)

-- elsewhere all is as it was
pub get_beside_set : {A : Type 0} (xs : List A) (i j : ℕ) (x : A) → i ≢ j
    → slice_get (slice_set xs i x) j ≡ slice_get xs j
get_beside_set [] i j x h = refl
get_beside_set (y ∷ ys) zero zero x h = absurd (h refl)
get_beside_set (y ∷ ys) zero (suc j) x h = refl
get_beside_set (y ∷ ys) (suc i) zero x h = refl
get_beside_set (y ∷ ys) (suc i) (suc j) x h = get_beside_set ys i j x (λ e. h (ap suc e))

-- the item of a mapped list
pub get_of_map : {A B : Type 0} (f : A → B) (xs : List A) (i : ℕ) (x : A) → slice_get xs i ≡ Some x
    → slice_get (map f xs) i ≡ Some (f x)
get_of_map f [] i x e = cc
get_of_map f (y ∷ xs) zero x e = let k : y ≡ x = cc in cc
get_of_map f (y ∷ xs) (suc i) x e = get_of_map f xs i x e

-- a mapped list is as long
pub length_of_map : {A B : Type 0} (f : A → B) (xs : List A) → length (map f xs) ≡ length xs
length_of_map f [] = refl
length_of_map f (x ∷ xs) = ap suc (length_of_map f xs)

-- the item at the end of a list that grew by it
pub get_last : {A : Type 0} (xs : List A) (x : A) → slice_get (xs ++ x ∷ []) (length xs) ≡ Some x
get_last [] x = refl
get_last (y ∷ xs) x = get_last xs x

-- the items before it
pub get_before_last : {A : Type 0} (xs : List A) (y : A) (i : ℕ) → i < length xs
    → slice_get (xs ++ y ∷ []) i ≡ slice_get xs i
get_before_last [] y i l = absurd (omega arith)
get_before_last (x ∷ xs) y zero l = refl
get_before_last (x ∷ xs) y (suc i) l = get_before_last xs y i (omega arith)

-- what stands in the front of a list stands there
pub get_in_front : {A : Type 0} (xs ys : List A) (i : ℕ) (x : A) → slice_get xs i ≡ Some x
    → slice_get (xs ++ ys) i ≡ Some x
get_in_front [] ys i x e = absurd (cc e)
get_in_front (z ∷ xs) ys zero x e = e
get_in_front (z ∷ xs) ys (suc i) x e = get_in_front xs ys i x e

-- what follows from a fact of an `Ok`
pub on_ok : {T E A B : Type 0} (r : Result T E) → OnOk r A → (A → B) → OnOk r B
on_ok (Ok x) a f = f a
on_ok (Err e) a f = tt

-- what holds where there is an answer, once it is led on
pub on_map : {T E : Type 0} (r : Result T E) (P Q : Type 0) → (P → Q) → OnOk r P → OnOk r Q
on_map (Ok x) P Q f h = f h
on_map (Err e) P Q f h = tt

-- all of a list but its last
pub take_front : (ns : List ℕ) (n : ℕ) → take (length (ns ++ n ∷ []) - 1) (ns ++ n ∷ []) ≡ ns
take_front ns n =
    let l = length-append ns (n ∷ []) in
    let e : length (ns ++ n ∷ []) - 1 ≡ length ns = omega (arith, l) in
    ap (λ k. take k (ns ++ n ∷ [])) e ∙ take-append_seam ns (n ∷ [])

-- what is at least a bound is above it by no negative number
pub from_low : (low v : ℤ) → int_le low v ≡ true → int_le (pos 0) (v -ℤ low) ≡ true
from_low low v x = Prim.grind (arith, x)

-- two integers keep their order where one number is taken from both
pub to_high : (low v high : ℤ) → int_le v high ≡ true → int_le (v -ℤ low) (high -ℤ low) ≡ true
to_high low v high x = Prim.grind (arith, x)

-- a sum over a list begins with its first
pub sum_on : (f : List ℕ × ℕ → ℕ) (x : List ℕ × ℕ) (xs : List (List ℕ × ℕ))
    → sum (map f (x ∷ xs)) ≡ f x + sum (map f xs)
sum_on f x xs = sum-map f (x ∷ xs) ∙ sum_by-cons f x xs ∙ ap (λ (s : ℕ). f x + s) (sym (sum-map f xs))

-- a sum with a limit, from its parts
pub sum_capped : (m a x s : ℕ) → min (min (a + x) m + s) m ≡ min (a + (x + s)) m
sum_capped m a x s = omega arith

-- the item of a table at an index
pub item_is : {X : Type 0} (xs : List X) (i : ℕ) (x : X) → i < length xs → x ≡ get_or xs i x → slice_get xs i ≡ Some x
item_is xs i x l e = slice_get-get_or xs i x l ∙ ap (λ y. Some y) (sym e)

-- where a list has nothing, what is made of it has nothing
pub no_get_of_map : {A B : Type 0} (p : A → B) (vs : List A) (i : ℕ) → slice_get vs i ≡ None
    → slice_get (map p vs) i ≡ None
no_get_of_map p [] i e = refl
no_get_of_map p (v ∷ vs) zero e = cc
no_get_of_map p (v ∷ vs) (suc i) e = no_get_of_map p vs i e

-- two texts of the same bytes are one
pub same_if_bytes_eq : (x y : List ℕ) → bytes_eq x y ≡ true → x ≡ y
same_if_bytes_eq x y e = (bytes_eq-Decides x y).0 e

-- ---- items of a list

-- where there is no item, the list has ended
pub get_none : {T : Type 0} (xs : List T) (k : ℕ) → slice_get xs k ≡ None → length xs ≤ k
get_none [] k e = omega arith
get_none (x ∷ xs) zero e = absurd (cc e)
get_none (x ∷ xs) (suc k) e = let r = get_none xs k e in omega (arith, r)

-- the item behind a list is the first of what stands there
pub get_front : {A : Type 0} (xs ys : List A) (x : A) → slice_get (xs ++ x ∷ ys) (length xs) ≡ Some x
get_front [] ys x = refl
get_front (y ∷ xs) ys x = get_front xs ys x

-- an item before the n-th is among the first n
pub get_take : {A : Type 0} (xs : List A) (n i : ℕ) → i < n → slice_get (take n xs) i ≡ slice_get xs i
get_take xs zero i l = absurd (omega (arith, l))
get_take [] (suc n) i l = refl
get_take (x ∷ xs) (suc n) zero l = refl
get_take (x ∷ xs) (suc n) (suc i) l = get_take xs n i (omega (arith, l))
