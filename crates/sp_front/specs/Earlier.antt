-- None of this belongs to what the program promises: it is for contracts between crates.
-- A type's definition names earlier types alone. The phase of names gives it, and the laws of this crate make of it
-- that sizes and values of types are there.
use Rattle.std.specs.Prelude.{◌≡◌, ℕ, suc, ◌≤◌, int_le, List, [], ◌∷◌, Option, Some, true}
use Rattle.sp_tree.specs.declared.checked.KindOf.{KindOf}
use Rattle.sp_tree.specs.declared.checked.KindOf.TheVariants as kind
use Rattle.sp_tree.specs.declared.named.NamedConst.{NamedConst}
use Rattle.sp_tree.specs.declared.named.NamedKind.{NamedKind}
use Rattle.sp_tree.specs.declared.named.NamedKindForm.{NamedKindForm}
use Rattle.sp_tree.specs.declared.named.NamedKindForm.TheVariants as form
use Rattle.sp_types.specs.declared.tables.Ordinal.{Ordinal}
use Rattle.sp_types.specs.Tables.{const_value}
use Rattle.sp_tree.specs.TreeShape.{AreBefore}
use Rattle.sp_front.specs.ForEach.{HoldsOfEach}
use Rattle.sp_tree.specs.declared.checked.Variable as checked

-- the definition of type j
abbrev pub IsEarlier : ℕ → NamedKindForm → Type 0
IsEarlier j (form.Alias k) = suc k ≤ j
IsEarlier j (form.Array a b e) = suc e ≤ j
IsEarlier j (form.Fields fs) = AreBefore j fs
IsEarlier _ _ = Unit {0}

-- so for each definition, from type j on
abbrev pub AreEarlier : ℕ → List NamedKind → Type 0
AreEarlier j [] = Unit {0}
AreEarlier j (k ∷ ks) = IsEarlier j k.form × AreEarlier (suc j) ks

-- the types of these variables have lower numbers
abbrev pub HaveTypes : ℕ → List checked.Variable → Type 0
HaveTypes k = HoldsOfEach (λ (u : checked.Variable). suc u.kind ≤ k)

-- a constant of the text has a value
abbrev pub HasValue : List (Option Ordinal) → NamedConst → Type 0
HasValue known c = (o : Ordinal) × (const_value known c ≡ Some o)

abbrev pub HaveValues : List (Option Ordinal) → NamedKindForm → Type 0
HaveValues known (form.Array a b e) = HasValue known a × HasValue known b
HaveValues _ _ = Unit {0}

abbrev pub AllHaveValues : List (Option Ordinal) → List NamedKind → Type 0
AllHaveValues known [] = Unit {0}
AllHaveValues known (k ∷ ks) = HaveValues known k.form × AllHaveValues known ks

-- a type whose components are of types before it
abbrev pub IsFormedKind : ℕ → KindOf → Type 0
IsFormedKind i (kind.Array low high index element) = (suc element ≤ i) × (int_le low high ≡ true)
IsFormedKind i (kind.Fields fs) = AreBefore i fs
IsFormedKind _ _ = Unit {0}

abbrev pub AreFormedKinds : ℕ → List KindOf → Type 0
AreFormedKinds i [] = Unit {0}
AreFormedKinds i (t ∷ ts) = IsFormedKind i t × AreFormedKinds (suc i) ts
