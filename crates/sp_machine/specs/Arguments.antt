-- None of this belongs to what the program promises: it is for contracts between crates.
-- The variables into which the arguments of a call go. The contracts of calls cite it, argument by argument.
use Rattle.std.specs.Prelude.{ℕ, suc, ◌≤◌, List, [], ◌∷◌, length}
use Rattle.std.specs.FinMap as map
use Rattle.sp_cell.specs.declared.spot.Spot.{Spot}
use Rattle.sp_cell.specs.Map.{Map, IsOwn, cells_at}
use Rattle.sp_code.specs.Machine.{Entry, Number, Chan, Cells}

-- an own piece of so many cells or more
abbrev pub HasOwn : Map → Spot → ℕ → Type 0
HasOwn m q n = IsOwn (map.get m q) × (n ≤ length (cells_at m q))

-- variable k of frame n takes the argument, if it is a value
abbrev pub Takes : Map → ℕ → ℕ → Entry → Type 0
Takes m n k (Number v) = HasOwn m (record { frame = n; variable = k }) 1
Takes m n k (Chan c) = HasOwn m (record { frame = n; variable = k }) 1
Takes m n k (Cells cs) = HasOwn m (record { frame = n; variable = k }) (length cs)
Takes _ _ _ _ = Unit {0}

-- the variables from k on take the arguments
abbrev pub TakeAll : Map → ℕ → ℕ → List Entry → Type 0
TakeAll m n k [] = Unit {0}
TakeAll m n k (e ∷ es) = Takes m n k e × TakeAll m n (suc k) es
