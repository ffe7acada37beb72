-- Some of this belongs to what the program promises (docs/promise.txt).
-- What `split` and `join` do to the plain map of a store. The contracts of `Store` and the steps of the system promise
-- it. Each part goes by recursion on the spots of a plan, so that it computes for a plan that is known.
use Rattle.std.specs.Option.{option_map_or}
use Rattle.std.specs.Prelude.{◌≡◌, ℕ, zero, suc, ℤ, ◌⊎◌, List, [], ◌∷◌, ◌++◌, max, Option, None, Some, IsSome}
use Rattle.std.specs.FinMap as map
use Rattle.sp_cell.specs.declared.cell.Cell.TheVariants.{Ordinal}
use Rattle.sp_cell.specs.declared.spot.Spot.{Spot}
use Rattle.sp_cell.specs.declared.spot.Handing.{Handing}
use Rattle.sp_cell.specs.Map.{Map, Content, Own, Shared, Away, Plain, cells_at}
use Rattle.sp_cell.specs.Frame.{least_above, frames}

-- c with what was found at a spot, if anything was
abbrev pub insert_if_found : Map → Spot → Option Content → Map
insert_if_found c s h = option_map_or (map.insert c s) h c

-- c with what m has at each of the spots
abbrev pub with_contents : Map → List Spot → Map → Map
with_contents m [] c = c
with_contents m (s ∷ ss) c = with_contents m ss (insert_if_found c s (map.get m s))

-- c with the cells that m has at each of the spots, shared
abbrev pub with_shared : Map → List Spot → Map → Map
with_shared m [] c = c
with_shared m (s ∷ ss) c = with_shared m ss (map.insert c s (Shared (cells_at m s)))

-- m with each of the spots away
abbrev pub with_away : Map → List Spot → Map
with_away m [] = m
with_away m (s ∷ ss) = with_away (map.insert m s Away) ss

-- c with the index of a forall, if there is one, in frame n
abbrev pub with_index : Map → ℕ → Option (ℕ × ℤ) → Map
with_index c n i = option_map_or (λ i. map.insert c (record { frame = n; variable = i.0 }) (Own (Ordinal i.1 ∷ []))) i c

-- the number of the frame of a child's index
abbrev pub index_frame : Handing → ℕ
index_frame h = max (least_above (frames h.moved)) (least_above (frames h.shared))

-- what a child of m has, by its handing
abbrev pub child_map : Map → Handing → Map
child_map m h = with_contents m h.moved (with_index (with_shared m h.shared map.empty) (index_frame h) h.index)

-- a child as its handing makes it: it has no own frame, and keeps the list of what moved to it
abbrev pub child_of : Map → Handing → Plain
child_of m h = record { map = child_map m h; own = []; moved = h.moved }

-- the children of a plan
abbrev pub children_of : Map → List Handing → List Plain
children_of m [] = []
children_of m (h ∷ hs) = child_of m h ∷ children_of m hs

-- all spots that the plan moves
abbrev pub moved_of : List Handing → List Spot
moved_of [] = []
moved_of (h ∷ hs) = h.moved ++ moved_of hs

-- all spots that the plan shares
abbrev pub shared_of : List Handing → List Spot
shared_of [] = []
shared_of (h ∷ hs) = h.shared ++ shared_of hs

-- some child gets an index
abbrev pub HasIndex : List Handing → Type 0
HasIndex [] = ⊥
HasIndex (h ∷ hs) = IsSome h.index ⊎ HasIndex hs

-- what is left of m once the plan is carried out
abbrev pub map_after_fork : Map → List Handing → Map
map_after_fork m hs = with_shared m (shared_of hs) (with_away m (moved_of hs))

-- the parent's map once the child is joined
abbrev pub map_after_join : Map → Plain → Map
map_after_join m c = with_contents c.map c.moved m

-- ---- while a fork is made ready

-- the map at q is empty, or has the cells of m there, shared
abbrev pub IsLentAt : Map → Map → Spot → Type 0
IsLentAt m r q = (map.get r q ≡ None) ⊎ (map.get r q ≡ Some (Shared (cells_at m q)))

-- a child before its moved spots are filled
abbrev pub prepared_map : Map → Handing → Map
prepared_map m h = with_index (with_shared m h.shared (with_away map.empty h.moved)) (index_frame h) h.index

-- such a child as a store
abbrev pub prepared_child : Map → Handing → Plain
prepared_child m h = record { map = prepared_map m h; own = []; moved = h.moved }

-- children joined one after another
abbrev pub map_after_joins : Map → List Plain → Map
map_after_joins m [] = m
map_after_joins m (c ∷ cs) = map_after_joins (map_after_join m c) cs

-- the first i children complete, and the others prepared
abbrev pub children_so_far : Map → List Handing → ℕ → List Plain
children_so_far m [] i = []
children_so_far m (h ∷ hs) zero = prepared_child m h ∷ children_so_far m hs zero
children_so_far m (h ∷ hs) (suc i) = child_of m h ∷ children_so_far m hs i
