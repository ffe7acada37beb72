-- The language keeps the laws of the model: locations are told apart, and a step goes by what it touches alone.
use Rattle.std.proofs.Common.{◌≡◌, true, ◌&&◌, ◌==◌, refl, subst, eqb-true, eq-eqb}
use Rattle.std.proofs.lemmas.Bool.{and_from}
use Rattle.sp_base.proofs.Facts.{first_true, second_true}
use Rattle.sp_meaning.specs.Maps.{IsTest}
use Rattle.sp_meaning.specs.Model.{same_name}
use Rattle.sp_meaning.specs.Steps.{Laws}
use Rattle.sp_meaning.specs.LocalWork.{RunInput, Loc, Cell, Input, Output, LocationContent, Address, Process, same_loc}
use Rattle.sp_meaning.specs.LocalWork.{content_with}
use Rattle.sp_meaning.specs.SuperPascal.{superpascal, act_tree}
use Rattle.sp_meaning.proofs.Keys.{name_test}
use Rattle.sp_meaning.proofs.Trees.{trees_keep}

-- locations are told apart
pub loc_test : IsTest same_loc
loc_test l k = (loc_is l k, loc_same l k)
  where
    loc_is : (l k : Loc) → same_loc l k ≡ true → l ≡ k
    loc_is (Cell p f x) (Cell q g y) h =
        let n : p ≡ q = (name_test p q).0 (first_true (same_name p q) ((f == g) && (x == y)) h) in
        let r = second_true (same_name p q) ((f == g) && (x == y)) h in
        let e0 : f ≡ g = eqb-true f g (first_true (f == g) (x == y) r) in
        let e1 : x ≡ y = eqb-true x y (second_true (f == g) (x == y) r) in
        λ i. Cell (n i) (e0 i) (e1 i)
    loc_is (Cell p f x) Input h = absurd (cc h)
    loc_is (Cell p f x) Output h = absurd (cc h)
    loc_is Input (Cell q g y) h = absurd (cc h)
    loc_is Input Input h = refl
    loc_is Input Output h = absurd (cc h)
    loc_is Output (Cell q g y) h = absurd (cc h)
    loc_is Output Input h = absurd (cc h)
    loc_is Output Output h = refl

    self : (l : Loc) → same_loc l l ≡ true
    self (Cell p f x) = and_from (same_name p p) ((f == f) && (x == x)) ((name_test p p).1 refl)
        (and_from (f == f) (x == x) (eq-eqb f f refl) (eq-eqb x x refl))
    self Input = refl
    self Output = refl

    loc_same : (l k : Loc) → l ≡ k → same_loc l k ≡ true
    loc_same l k e = subst (λ z. same_loc l z ≡ true) e (self l)

-- a step goes by the locations that it touches alone, for every program
pub superpascal_keeps : (g : RunInput) → Laws (superpascal g)
superpascal_keeps g = trees_keep Process Loc LocationContent Address same_loc (act_tree g) (λ a. a.spot) content_with
    loc_test
