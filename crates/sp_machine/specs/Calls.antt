-- All of this belongs to what the program promises (docs/promise.txt).
-- The live calls of a process, by its stack. `where` shows each with the place of the call.
use Rattle.std.specs.Prelude.{ℕ, List, [], ◌∷◌}
use Rattle.sp_code.specs.Machine.{Entry, Link, Reply}

-- where the live calls return, the innermost first: the instruction of the call is the one before
abbrev pub returns : List Entry → List ℕ
returns [] = []
returns (Link r ∷ stack) = r ∷ returns stack
returns (Reply r ∷ stack) = r ∷ returns stack
returns (e ∷ stack) = returns stack
