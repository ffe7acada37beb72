-- None of this belongs to what the program promises: it is for contracts between crates.
-- Lists of spots: membership, and that none comes twice, by recursion and by place. The requirements of `split` and
-- the definition of sound code cite it; loops go by places, laws by recursion.
use Rattle.std.specs.Prelude.{◌≡◌, ◌≢◌, ◌⊎◌, ℕ, ◌<◌, List, [], ◌∷◌, length, slice_index_or, Some}
use Rattle.std.specs.List.{AllByRecursion}
use Rattle.std.specs.FinMap as map
use Rattle.sp_cell.specs.declared.spot.Spot.{Spot}
use Rattle.sp_cell.specs.Map.{Map, Away, IsHeld, IsPiece}

-- q is one of the spots
abbrev pub In : Spot → List Spot → Type 0
In q [] = ⊥
In q (s ∷ ss) = (q ≡ s) ⊎ In q ss

-- q is none of the spots
abbrev pub NotIn : Spot → List Spot → Type 0
NotIn q ss = AllByRecursion (λ t. t ≢ q) ss

-- no spot comes twice
abbrev pub IsDistinct : List Spot → Type 0
IsDistinct [] = Unit {0}
IsDistinct (s ∷ ss) = NotIn s ss × IsDistinct ss

-- each of the spots is held
abbrev pub AllHeld : Map → List Spot → Type 0
AllHeld m ss = (q : Spot) → In q ss → IsHeld (map.get m q)

-- a piece is held at each of the spots
abbrev pub AllPieces : Map → List Spot → Type 0
AllPieces m ss = (q : Spot) → In q ss → IsPiece (map.get m q)

-- each of the spots is away
abbrev pub AllAway : Map → List Spot → Type 0
AllAway m ss = (q : Spot) → In q ss → map.get m q ≡ Some Away

-- ---- the same by place

-- no spot comes twice
abbrev pub DistinctByIndex : List Spot → Type 0
DistinctByIndex ss = (i j : ℕ) (d : Spot) → i < j → j < length ss → slice_index_or ss i d ≢ slice_index_or ss j d

-- a piece is held at each of the spots
abbrev pub PieceAtEach : Map → List Spot → Type 0
PieceAtEach m ss = (k : ℕ) (d : Spot) → k < length ss → IsPiece (map.get m (slice_index_or ss k d))
