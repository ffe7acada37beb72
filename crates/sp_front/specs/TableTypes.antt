-- None of this belongs to what the program promises: it is for contracts between crates.
-- The types in the tables of the phase of types are types that there are, so that each look-up by a number finds one.
use Rattle.std.specs.Prelude.{◌≡◌, ℕ, suc, ◌≤◌, ℤ, List, [], ◌∷◌, Option, Some, None, slice_get}
use Rattle.sp_tree.specs.declared.checked.KindOf.TheVariants as kind
use Rattle.sp_tree.specs.TreeShape.{AreBefore}
use Rattle.sp_types.specs.Tables.{Env, constant_kind}

-- it is one of so many types, where it is known
abbrev pub IsThere : ℕ → Option ℕ → Type 0
IsThere kinds None = Unit {0}
IsThere kinds (Some k) = suc k ≤ kinds

-- so for each
abbrev pub AreThere : ℕ → List (Option ℕ) → Type 0
AreThere kinds [] = Unit {0}
AreThere kinds (k ∷ ks) = IsThere kinds k × AreThere kinds ks

-- kinds: how many types there are
pub record Tabled (kinds : ℕ) (env : Env) : Type 0 where
  pub standard : 3 ≤ kinds
  pub constants : (i : ℕ) → IsThere kinds (constant_kind env i)
  pub variables : AreThere kinds env.variables
  pub elements : (k : ℕ) (low high : ℤ) (index element : ℕ)
      → slice_get env.kinds k ≡ Some (kind.Array low high index element) → suc element ≤ kinds
  pub fields : (k : ℕ) (fs : List (List ℕ × ℕ)) → slice_get env.kinds k ≡ Some (kind.Fields fs) → AreBefore kinds fs
