-- All of this belongs to what the program promises (docs/promise.txt).
-- The children of a fork table: one for each process statement, or one for all elements of a forall. The contract of
-- `Code` and the machine's forks cite it.
use Rattle.std.specs.Prelude.{ℕ, List, [], ◌∷◌, Option, Some, None, slice_get}
use Rattle.sp_code.specs.declared.code.ChildTable.{ChildTable}
use Rattle.sp_code.specs.declared.code.ForkTable.{ForkTable}

-- the index of the first of these children
abbrev pub first_index : List ChildTable → Option ℕ
first_index [] = None
first_index (c ∷ cs) = c.index

-- the index of a forall, or none for a parallel
abbrev pub index_of : ForkTable → Option ℕ
index_of t = first_index t.children

-- child k of a parallel; each child of a forall begins with the one that its table has
abbrev pub child_by : List ChildTable → Option ℕ → ℕ → Option ChildTable
child_by cs None k = slice_get cs k
child_by cs (Some x) k = slice_get cs 0

-- child k of a fork
abbrev pub child_at : ForkTable → ℕ → Option ChildTable
child_at t k = child_by t.children (index_of t) k
