-- None of this belongs to what the program promises: it is for contracts between crates.
-- Constants are named behind their declarations, and those of an enumeration are of an ordinal type. The proofs of the
-- facts of types rest on it.
use Rattle.std.specs.Prelude.{◌≡◌, ℕ, suc, ◌≤◌, List, [], ◌∷◌, true, slice_get}
use Rattle.sp_tree.specs.declared.checked.KindOf.{KindOf}
use Rattle.sp_tree.specs.declared.named.NamedConstant.{NamedConstant}
use Rattle.sp_tree.specs.declared.named.NamedConstant.TheVariants as constant
use Rattle.sp_tree.specs.declared.named.NamedValue.{NamedValue}
use Rattle.sp_tree.specs.declared.named.NamedValue.TheVariants as given
use Rattle.sp_tree.specs.declared.named.NamedKind.{NamedKind}
use Rattle.sp_tree.specs.declared.named.NamedKindForm.{NamedKindForm}
use Rattle.sp_tree.specs.declared.named.NamedKindForm.TheVariants as form
use Rattle.sp_tree.specs.PlainNamed as n
use Rattle.sp_types.specs.Tables.{numbers_of, type_number, env_of}
use Rattle.sp_types.specs.TypeRules.{is_ordinal}

-- a named constant has a lower number
abbrev pub IsBehind : ℕ → NamedValue → Type 0
IsBehind j (given.Number k) = Unit {0}
IsBehind j (given.Quoted t) = Unit {0}
IsBehind j (given.Constant k) = suc k ≤ j

-- so for each constant, from number j on
abbrev pub AreValuesBehind : ℕ → List NamedConstant → Type 0
AreValuesBehind j [] = Unit {0}
AreValuesBehind j (constant.Value c ∷ cs) = IsBehind j c.value × AreValuesBehind (suc j) cs
AreValuesBehind j (constant.Enumerated k i ∷ cs) = AreValuesBehind (suc j) cs

-- the constants of an enumeration are of an ordinal type
abbrev pub AreBehind : List KindOf → List ℕ → ℕ → List NamedConstant → Type 0
AreBehind kinds numbers j [] = Unit {0}
AreBehind kinds numbers j (constant.Value c ∷ cs) = IsBehind j c.value × AreBehind kinds numbers (suc j) cs
AreBehind kinds numbers j (constant.Enumerated k i ∷ cs) = (is_ordinal (slice_get kinds (type_number numbers k)) ≡ true)
    × AreBehind kinds numbers (suc j) cs

abbrev pub IsBoundBehind : ℕ → NamedKindForm → Type 0
IsBoundBehind j (form.Array a b e) = IsBehind j a.value × IsBehind j b.value
IsBoundBehind _ _ = Unit {0}

abbrev pub AreBoundsBehind : ℕ → List NamedKind → Type 0
AreBoundsBehind j [] = Unit {0}
AreBoundsBehind j (k ∷ ks) = IsBoundBehind j k.form × AreBoundsBehind j ks

abbrev pub AreEnumerated : List KindOf → List ℕ → List NamedConstant → Type 0
AreEnumerated kinds numbers [] = Unit {0}
AreEnumerated kinds numbers (constant.Value c ∷ cs) = AreEnumerated kinds numbers cs
AreEnumerated kinds numbers (constant.Enumerated k i ∷ cs) =
    (is_ordinal (slice_get kinds (type_number numbers k)) ≡ true) × AreEnumerated kinds numbers cs

-- the constants of enumerations are of ordinal types
abbrev pub HasOrdinalConstants : n.Program → Type 0
HasOrdinalConstants named = AreEnumerated (env_of named).kinds (numbers_of named) named.constants
