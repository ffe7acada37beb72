-- None of this belongs to what the program promises: it is for contracts between crates.
-- Files in memory: the contracts of `MemoryLibrary` say by it what a name holds. Of files with one name the first
-- counts.
use Rattle.std.specs.Prelude.{ℕ, List, Option}
use Rattle.std.specs.Map.{lookup}
use Rattle.std.specs.Str.{bytes_eq}

-- the text of the first file of this name
abbrev pub bytes_under : List (List ℕ × List ℕ) → List ℕ → Option (List ℕ)
bytes_under files name = lookup (bytes_eq name) files
