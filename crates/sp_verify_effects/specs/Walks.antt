-- None of this belongs to what the program promises: it is for contracts between crates.
-- Operands of calls that were gone over: of a block and a list of shapes, how many of the topmost ones.
use Rattle.std.specs.Prelude.{◌≡◌, ℕ, ◌+◌, ◌*◌, ◌<◌, Bool, false, List, Some, slice_get}
use Rattle.std.specs.Ordering.{nat_cmp}
use Rattle.std.specs.BTreeMap.{BTreeMap, get}
use Rattle.sp_verify_rules.specs.Shapes.{Shape, A}
use Rattle.sp_verify_shapes.specs.declared.stacks.Stacks.{Stacks}
use Rattle.sp_verify_shapes.specs.Stacks.{list_of}

-- of the addresses among the topmost operands, so many, none has a variable that the test finds for this block
abbrev pub NoneOfTop : (ℕ → ℕ → Bool) → (m k : ℕ) → List Shape → Type 0
NoneOfTop P m k ss = (i x left : ℕ) → i < k → slice_get ss i ≡ Some (A x left) → P m x ≡ false

-- a block and a list by one number
abbrev pub walk_key : ℕ → ℕ → ℕ
walk_key m n = m * 4294967296 + n

-- so it is for all that were gone over
abbrev pub AreWalks : Stacks → BTreeMap ℕ ℕ → (ℕ → ℕ → Bool) → Type 0
AreWalks st walks P = (m n k : ℕ) → m < 4294967296 → n < 4294967296 → get nat_cmp walks (walk_key m n) ≡ Some k
    → NoneOfTop P m k (list_of st n)
