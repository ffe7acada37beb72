-- None of this belongs to what the program promises: it is for contracts between crates.
-- Parts of a tree in memory, and their lengths one at a time, for the contracts of `statements`, which adds one part
-- after another.
use Rattle.std.specs.Prelude.{ℕ, ◌+◌, Bool, true, false, Option, Some, None}
use Rattle.sp_tree.specs.Plain.{Expr, Typed, Stmt, Program}
use Rattle.sp_code.specs.Scopes.{Sort, Many, sort}
use Rattle.sp_code.specs.Lengths.{right_length, stmt_length}

-- a value of several cells
abbrev pub is_many : Sort → Bool
is_many Many = true
is_many _ = false

-- the right side of an assignment
abbrev pub right_side : Program → Expr → ℕ
right_side p (Typed k form) = right_length (sort p k) form

-- what an `if` has behind its first statement
abbrev pub else_length : Program → Option Stmt → ℕ
else_length p None = 1
else_length p (Some b) = stmt_length p b + 2
