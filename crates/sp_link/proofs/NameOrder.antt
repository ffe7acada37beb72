-- The order of names as the program keeps them is that of the meaning (`in_order`).
use Rattle.std.proofs.Common.{◌≡◌, ℕ, ◌==◌, List, [], ◌∷◌, ◌++◌, Bool, true, false, cond, if◌then◌else◌, refl, sym, ap}
use Rattle.std.proofs.Common.{◌∙◌, arith}
use Rattle.std.specs.Prelude.{nat_lt, map, reverse}
use Rattle.std.proofs.lemmas.List.{reverse-append}
use Rattle.std.specs.declared.cmp.Ordering.{Ordering}
use Rattle.std.specs.declared.cmp.Ordering.TheVariants.{Less, Equal, Greater}
use Rattle.std.specs.Ordering.{nat_cmp, ordering_then}
use Rattle.std.specs.Cmp.Lexicographic.{slice_cmp}
use Rattle.sp_base.specs.Order.{pair_cmp, name_cmp}
use Rattle.sp_base.specs.declared.name.Pair.{Pair}
use Rattle.sp_journal.specs.Names.{Name, pairs_of, proc_name}
use Rattle.sp_meaning.specs.Ends.{pairs_before, name_before}

abbrev pair : ℕ × ℕ → Pair
pair a = record { fork = a.0; child = a.1 }

-- the oldest step first
last_pair : (xs : List (ℕ × ℕ)) (a : ℕ × ℕ) → map pair (xs ++ a ∷ []) ≡ map pair xs ++ pair a ∷ []
last_pair [] a = refl
last_pair (x ∷ xs) a = ap (λ y. pair x ∷ y) (last_pair xs a)

pairs_are : (p : Name) → pairs_of p ≡ map pair (reverse p)
pairs_are [] = refl
pairs_are (a ∷ p) = ap (λ y. y ++ pair a ∷ []) (pairs_are p) ∙ sym (last_pair (reverse p) a)
    ∙ ap (λ y. map pair y) (sym (reverse-append (a ∷ []) p))

-- one number before another, alike, or behind it
numbers_before : (a b : ℕ) (x : Ordering) (y : Bool) → ordering_then (nat_cmp a b) x ≡ Less → (x ≡ Less → y ≡ true)
    → (if nat_lt a b then true else (if nat_lt b a then false else y)) ≡ true
numbers_before a b x y e h = go (nat_lt a b) (a == b) (nat_lt b a) refl refl refl e
  where
    apart : nat_lt a b ≡ false → a == b ≡ true → nat_lt b a ≡ false
    apart e f = Prim.grind (arith, e, f)

    go : (p q r : Bool) → nat_lt a b ≡ p → a == b ≡ q → nat_lt b a ≡ r
        → ordering_then (cond p Less (cond q Equal Greater)) x ≡ Less
        → (if p then true else (if r then false else y)) ≡ true
    go true q r u v w e = refl
    go false true true u v w e = let bad : false ≡ true = sym (apart u v) ∙ w in absurd (cc bad)
    go false true false u v w e = h e
    go false false r u v w e = absurd (cc e)

list_before : (xs ys : List (ℕ × ℕ)) → slice_cmp pair_cmp (map pair xs) (map pair ys) ≡ Less → pairs_before xs ys ≡ true
list_before [] [] e = absurd (cc e)
list_before [] (b ∷ ys) e = refl
list_before (a ∷ xs) [] e = absurd (cc e)
list_before (a ∷ xs) (b ∷ ys) e =
    numbers_before a.0 b.0 (ordering_then (nat_cmp a.1 b.1) (slice_cmp pair_cmp (map pair xs) (map pair ys)))
    (if nat_lt a.1 b.1 then true else (if nat_lt b.1 a.1 then false else pairs_before xs ys))
    (together (nat_cmp a.0 b.0) (nat_cmp a.1 b.1) (slice_cmp pair_cmp (map pair xs) (map pair ys)) e)
    (λ f. numbers_before a.1 b.1 (slice_cmp pair_cmp (map pair xs) (map pair ys)) (pairs_before xs ys) f
    (λ k. list_before xs ys k))
  where
    together : (x y z : Ordering) → ordering_then (ordering_then x y) z ≡ Less
        → ordering_then x (ordering_then y z) ≡ Less
    together Less y z e = e
    together Equal y z e = e
    together Greater y z e = e

pub in_order : (p q : Name) → name_cmp (proc_name p) (proc_name q) ≡ Less → name_before p q ≡ true
in_order p q e = list_before (reverse p) (reverse q)
    (ap (λ y. slice_cmp pair_cmp y (map pair (reverse q))) (sym (pairs_are p))
    ∙ ap (λ y. slice_cmp pair_cmp (pairs_of p) y) (sym (pairs_are q)) ∙ e)
