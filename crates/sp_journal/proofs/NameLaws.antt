-- Different names stay different in the form in which the program keeps them.
use Rattle.std.proofs.Common.{◌≡◌, List, [], ◌∷◌, ◌++◌, refl, sym, ap, eq-eqb, true, ◌&&◌, ◌==◌, eqb-true}
use Rattle.std.proofs.lemmas.Bool.{and_from}
use Rattle.sp_base.specs.declared.name.ProcName.{ProcName}
use Rattle.sp_base.proofs.Facts.{false_is_not_true, first_true, second_true}
use Rattle.sp_journal.specs.Names.{Name, pairs_of, proc_name, same_name}

cons_first : {A : Type 0} (a b : A) (xs ys : List A) → a ∷ xs ≡ b ∷ ys → a ≡ b
cons_first a b xs ys e = cc

cons_rest : {A : Type 0} (a b : A) (xs ys : List A) → a ∷ xs ≡ b ∷ ys → xs ≡ ys
cons_rest a b xs ys e = cc

nil_cons : {A : Type 0} (b : A) (ys : List A) → [] ≡ b ∷ ys → ⊥
nil_cons b ys e = cc

-- lists that end in one element each
pub ends_alike : {A : Type 0} (xs ys : List A) (a b : A) → xs ++ a ∷ [] ≡ ys ++ b ∷ [] → (xs ≡ ys) × (a ≡ b)
ends_alike [] [] a b e = (refl, cons_first a b [] [] e)
ends_alike [] (y ∷ []) a b e = absurd (nil_cons b [] (cons_rest a y [] (b ∷ []) e))
ends_alike [] (y ∷ (z ∷ ys)) a b e = absurd (nil_cons z (ys ++ b ∷ []) (cons_rest a y [] (z ∷ (ys ++ b ∷ [])) e))
ends_alike (x ∷ []) [] a b e = absurd (nil_cons a [] (sym (cons_rest x b (a ∷ []) [] e)))
ends_alike (x ∷ (z ∷ xs)) [] a b e = absurd (nil_cons z (xs ++ a ∷ []) (sym (cons_rest x b (z ∷ (xs ++ a ∷ [])) [] e)))
ends_alike (x ∷ xs) (y ∷ ys) a b e =
    let r = ends_alike xs ys a b (cons_rest x y (xs ++ a ∷ []) (ys ++ b ∷ []) e) in
    let f = cons_first x y (xs ++ a ∷ []) (ys ++ b ∷ []) e in
    (λ i. f i ∷ r.0 i, r.1)

not_empty : {A : Type 0} (xs : List A) (a : A) → [] ≡ xs ++ a ∷ [] → ⊥
not_empty [] a e = nil_cons a [] e
not_empty (x ∷ xs) a e = nil_cons x (xs ++ a ∷ []) e

pub pairs_differ : (p q : Name) → pairs_of p ≡ pairs_of q → p ≡ q
pairs_differ [] [] e = refl
pairs_differ [] (b ∷ q) e = absurd (not_empty (pairs_of q) _ e)
pairs_differ (a ∷ p) [] e = absurd (not_empty (pairs_of p) _ (sym e))
pairs_differ (a ∷ p) (b ∷ q) e =
    let r = ends_alike (pairs_of p) (pairs_of q) (record { fork = a.0; child = a.1 })
    (record { fork = b.0; child = b.1 }) e in
    let s = pairs_differ p q r.0 in
    λ i. ((r.1 i).fork, (r.1 i).child) ∷ s i

-- different names are kept as different ones
pub names_differ : (p q : Name) → proc_name p ≡ proc_name q → p ≡ q
names_differ p q e = pairs_differ p q (ap (λ (n : ProcName). n.pairs) e)

-- a name is the same as itself
pub name_itself : (p : Name) → same_name p p ≡ true
name_itself [] = refl
name_itself (a ∷ p) = and_from ((a.0 == a.0) && (a.1 == a.1)) (same_name p p)
    (and_from (a.0 == a.0) (a.1 == a.1) (eq-eqb a.0 a.0 refl) (eq-eqb a.1 a.1 refl)) (name_itself p)

-- names that are the same by their test are one
pub name_is : (p q : Name) → same_name p q ≡ true → p ≡ q
name_is [] [] e = refl
name_is [] (b ∷ q) e = false_is_not_true e
name_is (a ∷ p) [] e = false_is_not_true e
name_is (a ∷ p) (b ∷ q) e =
    let h = first_true ((a.0 == b.0) && (a.1 == b.1)) (same_name p q) e in
    let x = eqb-true a.0 b.0 (first_true (a.0 == b.0) (a.1 == b.1) h) in
    let y = eqb-true a.1 b.1 (second_true (a.0 == b.0) (a.1 == b.1) h) in
    let r = name_is p q (second_true ((a.0 == b.0) && (a.1 == b.1)) (same_name p q) e) in
    λ i. (x i, y i) ∷ r i
