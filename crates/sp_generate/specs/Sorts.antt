-- None of this belongs to what the program promises: it is for contracts between crates.
-- Which values are many cells: the test by which copies and single loads are told apart.
use Rattle.std.specs.Prelude.{Bool, true, false}
use Rattle.sp_code.specs.Scopes.{Sort, Many}

abbrev pub is_many : Sort → Bool
is_many Many = true
is_many _ = false
