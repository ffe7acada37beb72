-- How the values of one type are written, by the forms of the types before it.
use Rattle.std.proofs.Common.{◌≡◌, ℕ, suc, ◌+◌, ◌-◌, ◌<◌, ◌≤◌, List, [], ◌∷◌, ◌++◌, Some, None, length}
use Rattle.std.proofs.Common.{ap, ◌∙◌, subst, arith, zero-add, add-one, get_or, drop, map}
use Rattle.std.specs.Prelude.{slice_get, take, replicate}
use Rattle.std.proofs.Math.Seq.{drop-cons}
use Rattle.std.proofs.lemmas.List.{length-take-le}
use Rattle.std.proofs.lemmas.Option.{slice_get_within, slice_get_past}
use Rattle.sp_tree.specs.declared.checked.KindOf.{KindOf}
use Rattle.sp_base.proofs.Facts.{get_none}
use Rattle.sp_tree.proofs.Tables.{table_get, table_long}
use Rattle.sp_tree.specs.Cells.{table, first_or}
use Rattle.sp_where.specs.Values.{Piece, Fixed, CellOf, comma, field_in, form_by, form_in, parts_from}

-- the form of type k, whose number is that of the forms before it
pub form_of_kind : (ks : List KindOf) (k : ℕ) (t : KindOf) → slice_get ks k ≡ Some t
    → form_in (table form_by [] ks) k ≡ form_by (take k (table form_by [] ks)) t
form_of_kind ks k t e = ap (first_or [])
    (subst (λ n. slice_get (table form_by [] ks) n ≡ Some (form_by (take n (table form_by [] ks)) t)) (zero-add k)
    (table_get form_by ks [] k t e))

no_form_by : (xs : List (List Piece)) (k : ℕ) → length xs ≤ k → form_in xs k ≡ []
no_form_by xs k l = ap (first_or []) (slice_get_past xs k l)

-- no type, and no form
pub no_form : (ks : List KindOf) (k : ℕ) → slice_get ks k ≡ None → form_in (table form_by [] ks) k ≡ []
no_form ks k e =
    let l = get_none ks k e in
    let n = table_long form_by ks [] in no_form_by (table form_by [] ks) k (omega (arith, l, n))

-- so many forms are before it
before_kind : (ks : List KindOf) (k : ℕ) (t : KindOf) → slice_get ks k ≡ Some t
    → length (take k (table form_by [] ks)) ≡ k
before_kind ks k t e =
    let l = table_long form_by ks [] in
    let inside : k < length ks = slice_get_within ks k t e in
    length-take-le k (table form_by [] ks) (omega (arith, l, inside))

-- of a type whose values are one cell
pub cell_form : (ks : List KindOf) (k : ℕ) (t : KindOf)
    → ((known : List (List Piece)) → form_by known t ≡ CellOf (length known) ∷ []) → slice_get ks k ≡ Some t
    → form_in (table form_by [] ks) k ≡ CellOf k ∷ []
cell_form ks k t one e = form_of_kind ks k t e ∙ one (take k (table form_by [] ks))
    ∙ ap (λ n. CellOf n ∷ []) (before_kind ks k t e)

-- one element, and the others
pub elements_more : (n i : ℕ) (x : List Piece) → i < n → parts_from i (replicate (n - i) x)
    ≡ (Fixed (comma i) ∷ x) ++ parts_from (i + 1) (replicate (n - (i + 1)) x)
elements_more n i x l =
    let e : n - i ≡ suc (n - (i + 1)) = omega (arith, l) in ap (λ k. parts_from i (replicate k x)) e

-- one field, and the others
pub fields_more : (known : List (List Piece)) (fs : List (List ℕ × ℕ)) (i : ℕ) (d : List ℕ × ℕ) → i < length fs
    → parts_from i (map (field_in known) (drop i fs))
    ≡ (Fixed (comma i) ∷ field_in known (get_or fs i d))
    ++ parts_from (i + 1) (map (field_in known) (drop (i + 1) fs))
fields_more known fs i d l =
    let e : drop i fs ≡ get_or fs i d ∷ drop (i + 1) fs = rw add-one (drop-cons fs i d l) in
    ap (λ z. parts_from i (map (field_in known) z)) e
