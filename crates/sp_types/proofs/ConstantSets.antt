-- A list of constants and a set of their keys grow together.
use Rattle.std.proofs.Common.{◌≡◌, refl, ap, sym, ◌∙◌, ℕ, ℤ, pos, negsuc, Bool, true, false, cond, ◌||◌, ◌&&◌, ltb, leb}
use Rattle.std.proofs.Common.{List, [], ◌∷◌, ◌++◌, nat_eq, arith}
use Rattle.std.specs.Prelude.{int_le}
use Rattle.std.specs.List.{list_any}
use Rattle.std.specs.declared.cmp.Ordering.TheVariants.{Less, Equal, Greater}
use Rattle.std.specs.Ordering.{nat_cmp, int_cmp, is_eq}
use Rattle.std.proofs.lemmas.Bool.Decides.{nat_tests}
use Rattle.std.proofs.lemmas.List.Folds.{list_any-append}
use Rattle.sp_base.proofs.Facts.{tie_is_equal, tie_of_both}
use Rattle.sp_types.specs.declared.tables.Ordinal.{Ordinal}
use Rattle.sp_types.specs.TypeRules.{is_same_ordinal}
use Rattle.sp_types.specs.Seen.{key_cmp, IsSet}

neither : (a b : ℕ) → is_eq (cond (ltb a b) Less (cond (ltb b a) Greater Equal)) ≡ (leb b a && leb a b)
neither a b = grind (arith, nat_tests)

int_same : (m n : ℤ) → is_eq (int_cmp m n) ≡ (int_le n m && int_le m n)
int_same (pos a) (pos b) = neither a b
int_same (pos a) (negsuc b) = refl
int_same (negsuc a) (pos b) = refl
int_same (negsuc a) (negsuc b) = neither b a

-- two constants have one key exactly where they are the same
key_same : (a b : Ordinal) → is_eq (key_cmp (a.kind, a.number) (b.kind, b.number)) ≡ is_same_ordinal b a
key_same a b =
    tie_of_both (nat_cmp a.kind b.kind) (int_cmp a.number b.number) ∙
    ap (λ (x : Bool). x && is_eq (int_cmp a.number b.number)) (tie_is_equal a.kind b.kind) ∙
    ap (λ (x : Bool). nat_eq b.kind a.kind && x) (int_same a.number b.number)

or_if : (a b : Bool) → (a || (b || false)) ≡ cond b true a
or_if true true = refl
or_if true false = refl
or_if false true = refl
or_if false false = refl

last_any : (p : Ordinal → Bool) (xs : List Ordinal) (y : Ordinal)
    → list_any p (xs ++ y ∷ []) ≡ cond (p y) true (list_any p xs)
last_any p xs y = list_any-append p xs (y ∷ []) ∙ or_if (list_any p xs) (p y)

abbrev among : List (ℕ × ℤ) → ℕ × ℤ → Bool
among keys q = list_any (λ (k : ℕ × ℤ). is_eq (key_cmp q k)) keys

pub grown :
    (constants : List Ordinal) (keys new : List (ℕ × ℤ)) (o : Ordinal) (key : ℕ × ℤ) → key ≡ (o.kind, o.number)
    → IsSet constants keys →
    ((q : ℕ × ℤ) → among new q ≡ cond (is_eq (key_cmp key q)) true (among keys q)) →
    IsSet (constants ++ o ∷ []) new
grown constants keys new o key key_is is_set added p =
    added (p.kind, p.number) ∙
    ap (λ (x : ℕ × ℤ). cond (is_eq (key_cmp x (p.kind, p.number))) true (among keys (p.kind, p.number))) key_is ∙
    ap (λ (x : Bool). cond x true (among keys (p.kind, p.number))) (key_same o p) ∙
    ap (λ (x : Bool). cond (is_same_ordinal p o) true x) (is_set p) ∙
    sym (last_any (is_same_ordinal p) constants o)

-- a constant is looked up by its key
pub found_by :
    (constants : List Ordinal) (keys : List (ℕ × ℤ)) (o : Ordinal) (key : ℕ × ℤ) → key ≡ (o.kind, o.number)
    → IsSet constants keys →
    among keys key ≡ list_any (is_same_ordinal o) constants
found_by constants keys o key key_is is_set = ap (among keys) key_is ∙ is_set o
