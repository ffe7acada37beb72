-- None of this belongs to what the program promises: it is for contracts between crates.
-- How the fields of a store, its sorted spots and its entries, are seen as its plain map. All contracts of `Store`
-- speak of that map; the parts inside cite this for where a spot stands.
use Rattle.std.specs.Prelude.{ℕ, ◌<◌, List, [], ◌∷◌, length, slice_index_or, slice_set, IsSome, Some, None, ◌≡◌, ◌≤◌}
use Rattle.std.specs.List.{insert}
use Rattle.std.specs.List.Sorted.{IsStrictlySortedBy}
use Rattle.std.specs.FinMap as map
use Rattle.sp_cell.specs.declared.spot.Spot.{Spot}
use Rattle.sp_cell.specs.Map.{Map, Content, Own, Shared, Output, Away, spot_cmp}
use Rattle.sp_cell.specs.Fork.{IsLentAt}
use Rattle.sp_store.specs.declared.entry.Entry.{Entry}
use Rattle.sp_store.specs.declared.entry.Entry.TheVariants as entry

-- what an entry holds
abbrev pub content : Entry → Content
content (entry.Single c) = Own (c ∷ [])
content (entry.Own p) = Own p
content (entry.Shared a) = Shared a.value
content (entry.Output v) = Output v.items
content entry.Away = Away

-- the spots with what the entries hold, in their order
abbrev pub pairs : List Spot → List Entry → List (Spot × Content)
pairs [] es = []
pairs (s ∷ ss) [] = []
pairs (s ∷ ss) (e ∷ es) = (s, content e) ∷ pairs ss es

-- the map of the spots
abbrev pub layout : List Spot → List Entry → Map
layout ss es = map.from_sorted (pairs ss es)

-- the map has something at each of the spots
abbrev pub AllKnown : Map → List Spot → Type 0
AllKnown m ss = (k : ℕ) (d : Spot) → k < length ss → IsSome (map.get m (slice_index_or ss k d))

-- the spot stands at place i
pub record IsPlace (ss : List Spot) (es : List Entry) (q : Spot) (i : ℕ) : Type 0 where
  pub bound : i < length es
  pub holds : (e : Entry) → map.get (layout ss es) q ≡ Some (content (slice_index_or es i e))
  pub sets : (e : Entry) → layout ss (slice_set es i e) ≡ map.insert (layout ss es) q (content e)

-- the spot stands nowhere, and would go to place i
pub record IsGap (ss : List Spot) (es : List Entry) (q : Spot) (i : ℕ) : Type 0 where
  pub bound : i ≤ length es
  pub absent : map.get (layout ss es) q ≡ None
  pub sorted : IsStrictlySortedBy spot_cmp (insert ss i q)
  pub inserts : (e : Entry) → layout (insert ss i q) (insert es i e) ≡ map.insert (layout ss es) q (content e)

-- a piece of the first map is lent in the second at each spot
abbrev pub IsLent : Map → Map → Type 0
IsLent m r = (q : Spot) → IsLentAt m r q

-- all spots are in frames below this number
abbrev pub FramesBelow : List Spot → ℕ → Type 0
FramesBelow ss n = (k : ℕ) (d : Spot) → k < length ss → let s = slice_index_or ss k d in s.frame < n
