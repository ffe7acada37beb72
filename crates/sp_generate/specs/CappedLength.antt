-- None of this belongs to what the program promises: it is for contracts between crates.
-- How a length is told: one that is no `u32` is told as the greatest. The contracts of all lengths cite it, so that a
-- sum never wraps and the limit is still seen to be passed.
use Rattle.std.specs.Prelude.{ℕ, min}

-- a length as a `u32`
abbrev pub capped_length : ℕ → ℕ
capped_length n = min n 4294967295
