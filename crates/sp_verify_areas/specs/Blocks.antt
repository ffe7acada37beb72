-- None of this belongs to what the program promises: it is for contracts between crates.
-- The layouts of code in an ordered table by the numbers of their blocks: under each block stands the place of its
-- first layout.
use Rattle.std.specs.Prelude.{◌≡◌, ℕ, ◌+◌, ◌==◌, if◌then◌else◌, List, [], ◌∷◌, Option, Some, None}
use Rattle.std.specs.Ordering.{nat_cmp}
use Rattle.std.specs.BTreeMap.{BTreeMap, get}
use Rattle.sp_code.specs.declared.code.Layout.{Layout}

-- the place of the first layout of a block, where the first of the layouts has place n
abbrev pub number_from : ℕ → List Layout → ℕ → Option ℕ
number_from n [] b = None
number_from n (l ∷ ls) b = if l.block == b then Some n else number_from (n + 1) ls b

-- the place under a block
abbrev pub number_of : BTreeMap ℕ ℕ → ℕ → Option ℕ
number_of m b = get nat_cmp m b

-- under each block stands the place of its first layout
abbrev pub IsNumbered : BTreeMap ℕ ℕ → List Layout → Type 0
IsNumbered m ls = (b : ℕ) → number_of m b ≡ number_from 0 ls b
