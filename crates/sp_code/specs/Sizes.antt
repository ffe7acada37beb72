-- Some of this belongs to what the program promises (docs/promise.txt).
-- How large code may be: so many instructions, layouts, fork tables and texts, and frames whose variables have
-- numbers and small sizes. The invariant of `Code` keeps it, so that the machine's numbers fit.
use Rattle.std.specs.Prelude.{ℕ, ◌≤◌, All, length}
use Rattle.sp_code.specs.declared.code.Parts.{Parts}
use Rattle.sp_code.specs.declared.code.Layout.{Layout}
use Rattle.sp_code.specs.declared.code.ForkTable.{ForkTable}
use Rattle.sp_code.specs.Scopes.{size}
use Rattle.sp_tree.specs.Plain.{Program}

-- a frame has few enough variables that each has a number, the input and the output counted
abbrev pub HasNumbers : Layout → Type 0
HasNumbers l = length l.sizes ≤ 4294967294

-- so many cells have offsets of 32 bits
abbrev pub IsSize : ℕ → Type 0
IsSize n = n ≤ 4294967295

-- each type of a program has so many
abbrev pub HasSmallTypes : Program → Type 0
HasSmallTypes p = (k : ℕ) → IsSize (size p k)

-- each variable of a frame has so many
abbrev pub HasSmallSizes : Layout → Type 0
HasSmallSizes l = All IsSize l.sizes

-- a fork has a child
abbrev pub HasChild : ForkTable → Type 0
HasChild t = 1 ≤ length t.children

-- at most 1,048,576 instructions, layouts, fork tables and texts, of each; small frames with small variables; a child
-- for each fork
pub record KeepsSizes (p : Parts) : Type 0 where
  pub instrs : length p.instrs ≤ 1048576
  pub layouts : length p.layouts ≤ 1048576
  pub forks : length p.forks ≤ 1048576
  pub texts : length p.texts ≤ 1048576
  pub frames : All HasNumbers p.layouts
  pub sizes : All HasSmallSizes p.layouts
  pub children : All HasChild p.forks
