-- The rules at a list of declarations are those at the first, and then those at the others.
use Rattle.std.proofs.Common.{◌≡◌, refl, ap, ◌∙◌, ℕ, ◌+◌, ◌<◌, List, [], ◌∷◌, ◌++◌, length, get_or, drop, add-one}
use Rattle.std.proofs.Common.{append_assoc, Option, Bool, true, false, ◌||◌, ◌&&◌, not, sym as back_of}
use Rattle.std.proofs.Math.Seq.{drop-cons}
use Rattle.std.proofs.lemmas.List.{drop-drop}
use Rattle.sp_tree.specs.declared.checked.Variable as checked
use Rattle.sp_types.specs.CheckedTree.{checked_variables}
use Rattle.sp_base.specs.declared.place.Place.{Place}
use Rattle.sp_tree.specs.declared.named.NamedConstant.{NamedConstant}
use Rattle.sp_tree.specs.declared.named.NamedConstant.TheVariants as constant
use Rattle.sp_tree.specs.declared.named.NamedStmt as stmt
use Rattle.sp_tree.specs.NamedOf.{statement_of}
use Rattle.sp_tree.specs.PhaseResults.{FirstRefusal}
use Rattle.sp_types.specs.declared.tables.Ordinal.{Ordinal}
use Rattle.sp_tree.specs.declared.named.NamedConst.{NamedConst}
use Rattle.sp_types.specs.Tables.{are_bounds, are_wrong, const_value, has_wrong_sign, is_long, value_by}
use Rattle.sp_types.specs.DeclarationFirsts.{constants_first, cells_first}
use Rattle.sp_types.specs.TypeWalk.{statement_place}

pub place_is : (s : stmt.NamedStmt) → statement_place (statement_of s) ≡ s.at
place_is s = search stmt.the_lemmas

pub constants_on : (known : List (Option Ordinal)) (c : NamedConstant) (cs : List NamedConstant)
    (first : FirstRefusal) →
    constants_first known (c ∷ cs) first ≡ constants_first known cs (constants_first known (c ∷ []) first)
constants_on known (constant.Value c) cs first = refl
constants_on known (constant.Enumerated k i) cs first = refl

-- bounds have no fault where neither of them is wrong by itself, and both not together
pub are_sound : (known : List (Option Ordinal)) (a b : NamedConst) (x y r : Bool)
    → x ≡ (is_long a.value || has_wrong_sign a.negative (value_by known a.value))
    → y ≡ (is_long b.value || has_wrong_sign b.negative (value_by known b.value))
    → r ≡ are_wrong (const_value known a) (const_value known b) → are_bounds known a b ≡ not (x || (y || r))
are_sound known a b x y r x_is y_is r_is =
    by (is_long a.value) (is_long b.value) (has_wrong_sign a.negative (value_by known a.value))
    (has_wrong_sign b.negative (value_by known b.value)) (are_wrong (const_value known a) (const_value known b))
    ∙ (λ j. not (back_of x_is j || (back_of y_is j || back_of r_is j)))
  where
    by : (la lb wa wb r : Bool)
        → (not la && (not lb && (not wa && (not wb && not r)))) ≡ not ((la || wa) || ((lb || wb) || r))
    by true lb wa wb r = refl
    by false true true wb r = refl
    by false true false wb r = refl
    by false false true wb r = refl
    by false false false true r = refl
    by false false false false r = refl

-- without cells nothing is found
none_left : (places : List Place) (first : FirstRefusal) → cells_first places [] first ≡ first
none_left [] first = refl
none_left (at ∷ places) first = refl

pub cells_on : (at : Place) (places : List Place) (cells : List ℕ) (first : FirstRefusal) →
    cells_first (at ∷ places) cells first ≡ cells_first places (drop 1 cells) (cells_first (at ∷ []) cells first)
cells_on at places [] first = back_of (none_left places first)
cells_on at places (n ∷ cells) first = refl

-- behind one index more
pub drop_head : {A : Type 0} (xs : List A) (i : ℕ) (d : A) → i < length xs → drop i xs ≡ get_or xs i d ∷ drop (i + 1) xs
drop_head xs i d lt = rw add-one (drop-cons xs i d lt)

pub cells_step : (places : List Place) (cells : List ℕ) (i : ℕ) (d : Place) (given found all : FirstRefusal) →
    i < length places → cells_first (drop i places) (drop i cells) given ≡ all
    → found ≡ cells_first (get_or places i d ∷ []) (drop i cells) given →
    cells_first (drop (i + 1) places) (drop (i + 1) cells) found ≡ all
cells_step places cells i d given found all lt invariant is =
    ap (cells_first (drop (i + 1) places) (drop (i + 1) cells)) is ∙
    ap (λ (r : List ℕ). cells_first (drop (i + 1) places) r (cells_first (get_or places i d ∷ []) (drop i cells) given))
    (back_of (drop-drop 1 i cells)) ∙
    back_of (cells_on (get_or places i d) (drop (i + 1) places) (drop i cells) given) ∙
    ap (λ (r : List Place). cells_first r (drop i cells) given) (back_of (drop_head places i d lt)) ∙
    invariant

-- without types there are no variables
no_variables : (xs : List checked.Variable) → checked_variables [] xs ≡ []
no_variables [] = refl
no_variables (x ∷ xs) = refl

variables_on : (x : checked.Variable) (xs : List checked.Variable) (kinds : List (Option ℕ)) →
    checked_variables kinds (x ∷ xs) ≡ checked_variables kinds (x ∷ []) ++ checked_variables (drop 1 kinds) xs
variables_on x xs [] = back_of (no_variables xs)
variables_on x xs (k ∷ kinds) = refl

pub variables_next : (kinds : List (Option ℕ)) (i : ℕ) (x : checked.Variable) (xs : List checked.Variable) →
    checked_variables (drop i kinds) (x ∷ xs) ≡ checked_variables (drop i kinds) (x ∷ [])
    ++ checked_variables (drop (i + 1) kinds) xs
variables_next kinds i x xs =
    variables_on x xs (drop i kinds) ∙ ap (λ (ks : List (Option ℕ)). checked_variables (drop i kinds) (x ∷ [])
    ++ checked_variables ks xs) (drop-drop 1 i kinds)

pub variables_step : (kinds : List (Option ℕ)) (i j : ℕ) (x : checked.Variable)
    (xs ys out more all : List checked.Variable) →
    out ++ checked_variables (drop i kinds) ys ≡ all → ys ≡ x ∷ xs
    → more ≡ out ++ checked_variables (drop i kinds) (x ∷ []) → j ≡ i + 1 →
    more ++ checked_variables (drop j kinds) xs ≡ all
variables_step kinds i j x xs ys out more all invariant front more_is next_is =
    ap (λ (m : List checked.Variable). m ++ checked_variables (drop j kinds) xs) more_is ∙
    ap (λ (k : ℕ). (out ++ checked_variables (drop i kinds) (x ∷ [])) ++ checked_variables (drop k kinds) xs)
    next_is ∙
    append_assoc out (checked_variables (drop i kinds) (x ∷ [])) (checked_variables (drop (i + 1) kinds) xs) ∙
    ap (λ (r : List checked.Variable). out ++ r) (back_of (variables_next kinds i x xs)) ∙
    ap (λ (r : List checked.Variable). out ++ checked_variables (drop i kinds) r) (back_of front) ∙
    invariant
