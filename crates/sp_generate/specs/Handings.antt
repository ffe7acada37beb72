-- Some of this belongs to what the program promises (docs/promise.txt).
-- What process statements are handed: the variables of their sets, in order of their numbers. The contracts of
-- `handed` promise it; an order is fixed, so that the code of a text is one.
use Rattle.std.specs.Prelude.{ℕ, zero, suc, ◌<◌, ◌*◌, List, [], ◌∷◌, Bool, not, if◌then◌else◌, length}
use Rattle.std.specs.List.{filter}
use Rattle.sp_tree.specs.Interference.{IsMember}
use Rattle.sp_varsets.specs.declared.sets.Sets.{Sets}
use Rattle.sp_varsets.specs.declared.var_set.VarSet.{VarSet}
use Rattle.sp_varsets.specs.AreSets.{targets_of, expressions_of}
use Rattle.sp_varsets.specs.Members.{has}

-- each number is below those behind it
abbrev pub IsInOrder : List ℕ → Type 0
IsInOrder [] = Unit {0}
IsInOrder (x ∷ xs) = ((y : ℕ) → IsMember y xs → x < y) × IsInOrder xs

-- of n numbers from x on, those that fit
abbrev pub fitting_numbers : (ℕ → Bool) → (x n : ℕ) → List ℕ
fitting_numbers fits x zero = []
fitting_numbers fits x (suc n) = if fits x then x ∷ fitting_numbers fits (suc x) n else fitting_numbers fits (suc x) n

-- the variables of a set, in order
abbrev pub members : VarSet → List ℕ
members s = fitting_numbers (has s) 0 (64 * length s.words)

-- the target variables of the statement with this number
abbrev pub moved_of : Sets → ℕ → List ℕ
moved_of sets n = members (targets_of sets n)

-- its expression variables that are no targets
abbrev pub is_shared : Sets → ℕ → ℕ → Bool
is_shared sets n x = not (has (targets_of sets n) x)

abbrev pub shared_of : Sets → ℕ → List ℕ
shared_of sets n = filter (is_shared sets n) (members (expressions_of sets n))
