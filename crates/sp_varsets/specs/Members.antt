-- Some of this belongs to what the program promises (docs/promise.txt).
-- Sets of variables as bits of words. All contracts on sets speak of members by it, here and in the crates that ask
-- the sets.
use Rattle.std.specs.Prelude.{◌≡◌, ℕ, ◌+◌, ◌-◌, ◌*◌, ◌/◌, ◌%◌, ◌<◌, ◌≤◌, Bool, true, false, ◌==◌, List, get_or}
use Rattle.std.specs.Int.{bit_at}
use Rattle.sp_varsets.specs.declared.union.VarUnion.{VarUnion}
use Rattle.sp_varsets.specs.declared.var_set.VarSet.{VarSet}

-- word x / 64 has bit x % 64
unfoldable pub in_words : List ℕ → ℕ → Bool
in_words words x = bit_at (get_or words (x / 64) 0) (x % 64) == 1

-- the set has the variable
abbrev pub has : VarSet → ℕ → Bool
has s x = in_words s.words x

-- y is the least variable of the set from this number on
abbrev pub IsNextMember : VarSet → ℕ → ℕ → Type 0
IsNextMember s from y = (from ≤ y) × (has s y ≡ true) × ((x : ℕ) → from ≤ x → x < y → has s x ≡ false)

-- the variable lies in the window of a union
abbrev pub InWindow : ℕ → ℕ → Type 0
InWindow first x = (64 * first ≤ x) × (x < 64 * first + 8256)

-- the union has the variable, of those in its window
unfoldable pub union_has : VarUnion → ℕ → Bool
union_has u x = in_words u.words (x - 64 * u.first)
