-- None of this belongs to what the program promises: it is for contracts between crates.
-- Rule V1, the point on blocks: a layout whose block has another one, or whose parents do not lead to block 0.
use Rattle.std.specs.Prelude.{◌≡◌, ◌≢◌, ◌⊎◌, ℕ, ◌<◌, ◌==◌, List, Option, Some, None, Bool, true, false, slice_get}
use Rattle.std.specs.Prelude.{length}
use Rattle.sp_code.specs.declared.code.Layout.{Layout}
use Rattle.sp_verify_rules.specs.Areas.{leads_by}
use Rattle.sp_verify_areas.specs.Alone.{flag_at}
use Rattle.sp_verify_areas.specs.Blocks.{number_from}

-- so it is with a layout, which stands at place j
abbrev pub IsOrphanBlock : List Layout → ℕ → Layout → Type 0
IsOrphanBlock ls j l = ((k : ℕ) × (m : Layout) × (slice_get ls k ≡ Some m) × (k ≢ j) × (m.block ≡ l.block))
    ⊎ (leads_by (length ls) ls (Some l) ≡ false)

-- the layout at place j does, and has its first instruction there
abbrev pub OrphanBlockAt : List Layout → ℕ → ℕ → Type 0
OrphanBlockAt ls j p = (l : Layout) × (slice_get ls j ≡ Some l) × (l.entry ≡ p) × IsOrphanBlock ls j l

-- the place, if there is one, is j
abbrev pub is_place : Option ℕ → ℕ → Bool
is_place None j = false
is_place (Some k) j = k == j

-- another layout than the one at place i is of a block whose first layout stands there
abbrev pub IsDoubled : List Layout → ℕ → Type 0
IsDoubled ls i = (j : ℕ) × (l : Layout) × (slice_get ls j ≡ Some l) × (j ≢ i) × (number_from 0 ls l.block ≡ Some i)

-- flags say at which first layouts another one, of the first n, is of the same block
pub record AreDoubled (ls : List Layout) (fs : List Bool) (n : ℕ) : Type 0 where
  pub size : length fs ≡ length ls
  pub yes : (i : ℕ) → flag_at fs i ≡ true → IsDoubled ls i
  pub all : (i j : ℕ) (l : Layout) → j < n → slice_get ls j ≡ Some l → j ≢ i → number_from 0 ls l.block ≡ Some i
      → flag_at fs i ≡ true
