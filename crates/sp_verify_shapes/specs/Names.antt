-- None of this belongs to what the program promises: it is for contracts between crates.
-- Lists of shapes whose jumps pass alike shapes.
use Rattle.std.specs.Prelude.{◌≡◌, ℕ, zero, suc, ◌+◌, ◌-◌, List, [], ◌∷◌, Some, slice_get}
use Rattle.sp_code.specs.declared.code.Formal.{Formal}
use Rattle.sp_verify_rules.specs.Areas.{on_option}
use Rattle.sp_verify_rules.specs.Rules.{fits_formal}
use Rattle.sp_verify_rules.specs.Shapes.{Shape}
use Rattle.sp_verify_shapes.specs.declared.stacks.Shape.{Shape as Kept}
use Rattle.sp_verify_shapes.specs.declared.stacks.Shape.TheVariants as kept
use Rattle.sp_verify_shapes.specs.declared.stacks.Cell.{Cell}
use Rattle.sp_verify_shapes.specs.declared.stacks.Stacks.{Stacks}
use Rattle.sp_verify_shapes.specs.Stacks.{list_of}

-- the formals that a shape fits, by a number: a value of so many cells, or an address with so many cells left
abbrev pub kind_of : Kept → ℕ
kind_of kept.Ordinal = 1
kind_of kept.Channel = 1
kind_of (kept.Cells n) = n
kind_of (kept.Address x n) = 4294967296 + n

-- two shapes fit the same formals
abbrev pub IsLike : Shape → Shape → Type 0
IsLike s t = (f : Formal) → fits_formal f s ≡ fits_formal f t

-- the first k shapes of two lists do, one by one
abbrev pub AreLike : ℕ → List Shape → List Shape → Type 0
AreLike zero ss ts = Unit {0}
AreLike (suc k) [] ts = ⊥
AreLike (suc k) (s ∷ ss) [] = ⊥
AreLike (suc k) (s ∷ ss) (t ∷ ts) = IsLike s t × AreLike k ss ts

-- the cell of a list
abbrev pub IsCell : Stacks → ℕ → Cell → Type 0
IsCell st n c = (i : ℕ) × (n ≡ i + 1) × (slice_get st.cells i ≡ Some c)

-- how many shapes the jump of a list passes
abbrev pub far_of : Stacks → ℕ → ℕ
far_of st n = on_option 0 (slice_get st.cells (n - 1)) (λ c. c.jump.far)

-- the jumps of two lists pass as many shapes, and these are alike
abbrev pub PassAlike : Stacks → ℕ → ℕ → Type 0
PassAlike st m n = (far_of st m ≡ far_of st n) × AreLike (far_of st n) (list_of st m) (list_of st n)

-- each list that has a name passes what that one passes
abbrev pub AreNames : Stacks → List ℕ → Type 0
AreNames st names = (i r : ℕ) → slice_get names i ≡ Some r → PassAlike st (i + 1) r
