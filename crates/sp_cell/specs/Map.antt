-- Some of this belongs to what the program promises (docs/promise.txt).
-- The plain map of a store: what its calls do, without its representation. Each contract of `Store`, and the memory of
-- the machine's definition, speaks of it; it is a map and no list, so that equal stores are equal.
use Rattle.std.specs.Prelude.{ℕ, ◌+◌, ◌≤◌, List, [], ◌++◌, length, slice_set, Option, None, Some}
use Rattle.std.specs.Ordering.{nat_cmp, then_cmp, on}
use Rattle.std.specs.declared.cmp.Ordering.{Ordering}
use Rattle.std.specs.FinMap as map
use Rattle.sp_cell.specs.declared.cell.Cell.{Cell}
use Rattle.sp_cell.specs.declared.spot.Spot.{Spot}
use Rattle.sp_cell.specs.declared.spot.Address.{Address}
use Rattle.sp_cell.specs.Lists.{splice, part}

-- what a store has at a spot that it knows
pub data Content : Type 0 where
  Own : List Cell → Content
  Shared : List Cell → Content
  Output : List ℕ → Content
  Away : Content

-- by frame, and then by variable
abbrev pub spot_cmp : Spot → Spot → Ordering
spot_cmp = then_cmp (on (λ s. s.frame) nat_cmp) (on (λ s. s.variable) nat_cmp)

-- what a store knows, by spots
abbrev pub Map : Type 0
Map = map.FinMap spot_cmp Content

-- a store: its map, the numbers of its own frames, the newest last, and the spots moved to it
pub record Plain : Type 0 where
  pub map : Map
  pub own : List ℕ
  pub moved : List Spot

-- p with another map
abbrev pub with_map : Plain → Map → Plain
with_map p m = record { map = m; own = p.own; moved = p.moved }

-- ---- reading

-- the cells of a piece, own or shared
abbrev pub cells_of : Option Content → List Cell
cells_of (Some (Own cs)) = cs
cells_of (Some (Shared cs)) = cs
cells_of _ = []

-- a piece is held, own or shared
abbrev pub IsPiece : Option Content → Type 0
IsPiece (Some (Own cs)) = Unit {0}
IsPiece (Some (Shared cs)) = Unit {0}
IsPiece _ = ⊥

-- an own piece is held
abbrev pub IsOwn : Option Content → Type 0
IsOwn (Some (Own cs)) = Unit {0}
IsOwn _ = ⊥

-- held: there, and not away
abbrev pub IsHeld : Option Content → Type 0
IsHeld (Some (Own cs)) = Unit {0}
IsHeld (Some (Shared cs)) = Unit {0}
IsHeld (Some (Output bs)) = Unit {0}
IsHeld _ = ⊥

-- the cells of the piece at a spot
abbrev pub cells_at : Map → Spot → List Cell
cells_at m s = cells_of (map.get m s)

-- n cells from the address on are in a piece that is held
abbrev pub HasCells : Map → Address → ℕ → Type 0
HasCells m a n = IsPiece (map.get m a.spot) × (a.offset + n ≤ length (cells_at m a.spot))

-- the output of the program is variable 1 of frame 0
abbrev pub output_spot : Spot
output_spot = record { frame = 0; variable = 1 }

-- the output is held
abbrev pub IsOutput : Option Content → Type 0
IsOutput (Some (Output bs)) = Unit {0}
IsOutput _ = ⊥

-- the bytes of the output
abbrev pub bytes_of : Option Content → List ℕ
bytes_of (Some (Output bs)) = bs
bytes_of _ = []

-- the output, where it is held
abbrev pub output_of : Option Content → Option (List ℕ)
output_of (Some (Output bs)) = Some bs
output_of _ = None

-- ---- one spot

-- m with an own piece of these cells at a spot
abbrev pub with_own_piece : Map → Spot → List Cell → Map
with_own_piece m s cs = map.insert m s (Own cs)

-- m with one cell written
abbrev pub with_cell : Map → Address → Cell → Map
with_cell m a c = with_own_piece m a.spot (slice_set (cells_at m a.spot) a.offset c)

-- m with cells written from an address on
abbrev pub put_cells : Map → Address → List Cell → Map
put_cells m a cs = with_own_piece m a.spot (splice (cells_at m a.spot) a.offset cs)

-- m with n cells, as they were, copied from one address to another
abbrev pub with_copied_cells : Map → Address → Address → ℕ → Map
with_copied_cells m to from n = put_cells m to (part (cells_at m from.spot) from.offset n)

-- m with bytes put after the output
abbrev pub with_more_output : Map → List ℕ → Map
with_more_output m bs = map.insert m output_spot (Output (bytes_of (map.get m output_spot) ++ bs))
