-- Where no rule of types is broken, each type has few cells.
use Rattle.std.proofs.Common.{◌≡◌, ◌∙◌, refl, sym, ℕ, zero, suc, ◌+◌, ◌≤◌, List, [], ◌∷◌, ◌++◌, Option, false, length}
use Rattle.std.proofs.Common.{slice_get, arith}
use Rattle.std.specs.Prelude.{nat_lt}
use Rattle.std.proofs.lemmas.List.{length-append}
use Rattle.sp_base.specs.declared.place.Place.{Place}
use Rattle.sp_base.specs.declared.rule.Rule.TheVariants as rule
use Rattle.sp_tree.specs.declared.checked.KindOf.{KindOf}
use Rattle.sp_tree.specs.declared.named.NamedKind.{NamedKind}
use Rattle.sp_tree.specs.declared.named.NamedKindForm.{NamedKindForm}
use Rattle.sp_tree.specs.declared.named.NamedKindForm.TheVariants as form
use Rattle.sp_tree.specs.Cells.{table, size_by, sizes, first_or}
use Rattle.sp_tree.specs.PhaseResults.{refusal_list}
use Rattle.sp_tree.specs.NameFirst.{both_lists}
use Rattle.sp_tree.specs.NamedTree.{program_named}
use Rattle.sp_tree.specs.PlainSyntax as syntax
use Rattle.sp_code.specs.Sizes.{IsSize}
use Rattle.sp_types.specs.declared.tables.Ordinal.{Ordinal}
use Rattle.sp_types.specs.Tables.{constants_of, numbers_of, env_of, kinds_by, kinds_from}
use Rattle.sp_types.specs.TypeRules.{most_cells, cells_rule}
use Rattle.sp_types.specs.TypeFirst.{types_broken}
use Rattle.sp_types.specs.TypeWalk as w
use Rattle.sp_front.proofs.NoBreachInParts.{none_in_parts, none_at_site, not_if_none}

few : (n : ℕ) → nat_lt 1048576 n ≡ false → n ≤ 4294967295
few n e = Prim.grind (arith, e)

-- as many places as sizes, and at each no rule broken
cells_small : (places : List Place) (ns : List ℕ) → length ns ≤ length places
    → w.cells_sites [] both_lists refusal_list places ns ≡ [] → (k : ℕ) → IsSize (first_or 0 (slice_get ns k))
cells_small places [] l calm zero = omega arith
cells_small places [] l calm (suc k) = omega arith
cells_small [] (n ∷ ns) l calm k = absurd (omega (arith, l))
cells_small (at ∷ places) (n ∷ ns) l calm zero =
    few n (not_if_none rule.L3 at (nat_lt most_cells n)
    (none_at_site (cells_rule at n)
    (none_in_parts (refusal_list (cells_rule at n)) (w.cells_sites [] both_lists refusal_list places ns)
    calm).0))
cells_small (at ∷ places) (n ∷ ns) l calm (suc k) =
    cells_small places ns (omega (arith, l))
    (none_in_parts (refusal_list (cells_rule at n)) (w.cells_sites [] both_lists refusal_list places ns) calm).1 k

table_length : (known : List ℕ) (ks : List KindOf) → length (table size_by known ks) ≡ length known + length ks
table_length known [] = omega arith
table_length known (k ∷ ks) = let e = table_length (known ++ size_by known k ∷ []) ks in
    let l = length-append known (size_by known k ∷ []) in omega (arith, e, l)

-- each type that is made has a place
places_length : (ns : List ℕ) (consts : List (Option Ordinal)) (ks : List NamedKind)
    → length (kinds_from ns consts ks) ≡ length (w.places_of ks)
places_length ns consts [] = refl
places_length ns consts (k ∷ ks) = length-append (kinds_by ns consts k.form) (kinds_from ns consts ks)
    ∙ both (one k.form) (places_length ns consts ks) ∙ sym (length-append (w.place_by k.at k.form) (w.places_of ks))
  where
    both : {a b c d : ℕ} → a ≡ b → c ≡ d → a + c ≡ b + d
    both e f = omega (arith, e, f)

    one : (f : NamedKindForm) → length (kinds_by ns consts f) ≡ length (w.place_by k.at f)
    one form.Integer = refl
    one _ = refl

-- of a program
pub types_small : (s : syntax.Program) → types_broken (program_named s) ≡ [] → (k : ℕ)
    → IsSize (first_or 0 (slice_get (sizes (env_of (program_named s)).kinds) k))
types_small s types =
    let n_ = program_named s in
    let rest = w.blocks_sites [] both_lists refusal_list (numbers_of n_) (sizes (env_of n_).kinds) n_.variables 0
    (env_of n_)
    (w.starts_of n_.blocks) n_.blocks in
    let cells = w.cells_sites [] both_lists refusal_list (w.places_of n_.kinds) (sizes (env_of n_).kinds) in
    let kinds = w.kinds_sites [] both_lists refusal_list (constants_of n_) n_.kinds in
    let calm = (none_in_parts cells rest (none_in_parts kinds (both_lists cells rest)
    (none_in_parts (w.constants_sites [] both_lists refusal_list (constants_of n_) n_.constants)
    (both_lists kinds (both_lists cells rest)) types).1).1).0 in
    let a = table_length [] (env_of n_).kinds in
    let b = places_length (numbers_of n_) (constants_of n_) n_.kinds in
    cells_small (w.places_of n_.kinds) (sizes (env_of n_).kinds) (omega (arith, a, b)) calm
