-- None of this belongs to what the program promises: it is for contracts between crates.
-- Cells counted up to just above the limit: of a larger count no more is known than that it is larger. The contracts
-- of `sizes` cite it, since a sum of sizes may pass every machine number.
use Rattle.std.specs.Prelude.{ℕ, ◌+◌, min, List, []}
use Rattle.sp_tree.specs.declared.checked.KindOf.{KindOf}
use Rattle.sp_tree.specs.Cells.{size_by, table}
use Rattle.sp_types.specs.TypeRules.{most_cells}

-- a count, or the first one above the limit
abbrev pub capped_count : ℕ → ℕ
capped_count n = min n (most_cells + 1)

-- a type's cells, where those of the types before it are known
abbrev pub capped_by : List ℕ → KindOf → ℕ
capped_by known k = capped_count (size_by known k)

-- the cells of each type
abbrev pub capped_sizes : List KindOf → List ℕ
capped_sizes kinds = table capped_by [] kinds
