-- Some of this belongs to what the program promises (docs/promise.txt).
-- Counts of faults, and what it means that a count rose. Each contract on a source, a sink or a library says of an
-- error that its count rose. A counter may stand at its last value, so "rose" is said and not "one more".
use Rattle.std.specs.Prelude.{◌≡◌, ◌⊎◌, ℕ, ◌<◌, ◌+◌, min}

-- the last value of a counter
abbrev pub last_count : ℕ
last_count = 18446744073709551615

-- the count rose: it is greater than before, or it stands at the last value of a counter
abbrev pub Rose : ℕ → ℕ → Type 0
Rose before after = (before < after) ⊎ (after ≡ last_count)

-- a counter goes up by one, and stays at its last value
abbrev pub next_count : ℕ → ℕ
next_count n = min (n + 1) last_count
