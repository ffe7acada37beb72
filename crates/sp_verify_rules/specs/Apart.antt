-- None of this belongs to what the program promises: it is for contracts between crates.
-- How the stores of all processes are held apart along a journal of verified code. A frame keeps its number in every
-- store that knows it, so one variable stands at one spot in all of them.
use Rattle.std.specs.Prelude.{◌≡◌, ◌≢◌, ◌⊎◌, ◌<◌, ℕ, List, Option, Some, None, IsSome}
use Rattle.std.specs.FinMap as map
use Rattle.sp_cell.specs.declared.spot.Spot.{Spot}
use Rattle.sp_cell.specs.Holders.{ContentsAgree}
use Rattle.sp_cell.specs.Map.{Map, Plain, Away}
use Rattle.sp_cell.specs.Spots.{In}
use Rattle.sp_journal.specs.declared.entry.Birth.{Birth}
use Rattle.sp_code.specs.Machine.{Config, At}
use Rattle.sp_code.specs.Memory.{Memory}
use Rattle.sp_code.specs.Sound.{identity, means}
use Rattle.sp_code.specs.System.{Condition, Absent, Working, Waits, Joins, Laid, Gone, Over, frames_of, store_of}
use Rattle.sp_verify_rules.specs.Systems.{IsLive}
use Rattle.sp_verify_rules.specs.Writable.{IsWritable}

-- a process that has a store
abbrev pub config_in : Condition Plain → Option (Config (Memory Plain))
config_in Absent = None
config_in (Working c) = Some c
config_in (Waits stop c) = Some c
config_in (Joins left c) = Some c
config_in (Laid c) = Some c
config_in Gone = None
config_in (Over c) = Some c

-- the number in its memory
abbrev pub process_of : Config (Memory Plain) → ℕ
process_of (At pc st n) = n.process

-- its map, what moved to it, and which frame of the run a number means in its store
abbrev pub map_of : Config (Memory Plain) → Map
map_of c = (store_of c).map

abbrev pub spots_moved : Config (Memory Plain) → List Spot
spots_moved c = (store_of c).moved

abbrev pub meaning : Config (Memory Plain) → ℕ → ℕ
meaning c n = means (frames_of c) n

abbrev pub KnowsSpot : Config (Memory Plain) → Spot → Type 0
KnowsSpot c q = IsSome (map.get (map_of c) q)

-- process r made the frame of the spot
abbrev pub IsMade : (r : ℕ) → Config (Memory Plain) → Spot → Type 0
IsMade r c q = meaning c q.frame ≡ identity r q.frame

-- f: the conditions of all processes; birth: how each came to be
module _ (f : ℕ → Condition Plain) (birth : ℕ → Option Birth) where
  -- a child of a process, that has not ended
  abbrev pub IsChildOf : (r p : ℕ) → Type 0
  IsChildOf r p = (x : Birth) × (birth r ≡ Some x) × (x.parent ≡ p) × IsLive (f r)

  -- the parent knows the spot too, and means the same by it
  abbrev pub IsHandedOn : (r : ℕ) → Config (Memory Plain) → Spot → Type 0
  IsHandedOn r c q = (p : ℕ) × (d : Config (Memory Plain)) × IsChildOf r p × (config_in (f p) ≡ Some d) × KnowsSpot d q
      × (meaning d q.frame ≡ meaning c q.frame)

  -- a spot that moved from d, of process p, to c: it is away there, means the same, and p could write there
  abbrev pub IsMovedFrom : (p : ℕ) → (d c : Config (Memory Plain)) → Spot → Type 0
  IsMovedFrom p d c q = (map.get (map_of d) q ≡ Some Away) × (meaning d q.frame ≡ meaning c q.frame)
      × IsWritable p (spots_moved d) (frames_of d) q

  pub record AreApart : Type 0 where
    -- the memory of a process has its number
    pub number : (r : ℕ) (c : Config (Memory Plain)) → config_in (f r) ≡ Some c → process_of c ≡ r
    -- what a process knows is of a frame that it made, or its parent knows it
    pub known : (r : ℕ) (c : Config (Memory Plain)) → config_in (f r) ≡ Some c → (q : Spot) → KnowsSpot c q
        → IsMade r c q ⊎ IsHandedOn r c q
    -- what moved to it is away from its parent
    pub moved : (r p : ℕ) (c d : Config (Memory Plain)) → IsChildOf r p → config_in (f r) ≡ Some c
        → config_in (f p) ≡ Some d
        → (q : Spot) → In q (spots_moved c) → IsMovedFrom p d c q
    -- and no other child of its parent knows it
    pub siblings : (r t p : ℕ) (c d : Config (Memory Plain)) → r ≢ t → IsChildOf r p → IsChildOf t p
        → config_in (f r) ≡ Some c → config_in (f t) ≡ Some d → (q : Spot) → In q (spots_moved c) → KnowsSpot d q
        → IsMade t d q
    -- two stores agree on each variable that both know
    pub agree : (r t : ℕ) (c d : Config (Memory Plain)) → r ≢ t → config_in (f r) ≡ Some c → config_in (f t) ≡ Some d
        → (q : Spot) → meaning c q.frame ≡ meaning d q.frame
        → ContentsAgree (map.get (map_of c) q) (map.get (map_of d) q)

  -- parents are older than their children
  abbrev pub AreOlder : Type 0
  AreOlder = (r p : ℕ) → IsChildOf r p → p < r
