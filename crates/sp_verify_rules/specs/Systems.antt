-- None of this belongs to what the program promises: it is for contracts between crates.
-- All processes of a run of verified code, along a journal: each lives by what it holds, and what a process that joins
-- has given away is with its children, which hold it.
use Rattle.std.specs.Prelude.{◌≡◌, ℕ, ◌<◌, ◌≤◌, ◌==◌, cond, List, [], ◌∷◌, ◌++◌, length, Some}
use Rattle.std.specs.FinMap as map
use Rattle.sp_tree.specs.Interference.{IsMember}
use Rattle.sp_cell.specs.declared.spot.Spot.{Spot}
use Rattle.sp_cell.specs.Map.{Map, Plain, Away}
use Rattle.sp_cell.specs.Spots.{In, NotIn, IsDistinct}
use Rattle.sp_journal.specs.Births.{Births}
use Rattle.sp_journal.specs.declared.entry.Birth.{Birth}
use Rattle.sp_code.specs.Machine.{Config}
use Rattle.sp_code.specs.Memory.{CodeRun, Home, Frame, Memory}
use Rattle.sp_code.specs.System.{Condition, Absent, Working, Waits, Joins, Gone, Over, spot_of, frames_of}
use Rattle.sp_code.specs.System.{store_of, on_store}
use Rattle.sp_verify_rules.specs.Extents.{extent}
use Rattle.sp_verify_rules.specs.ProcessLife.{Base, HasActivations, StopInvariant}

-- a list without the first q
abbrev pub without_first : ℕ → List ℕ → List ℕ
without_first q [] = []
without_first q (x ∷ xs) = cond (q == x) xs (x ∷ without_first q xs)

-- how many children a process awaits yet
abbrev pub awaited_children : {S : Type 0} → Condition S → ℕ
awaited_children (Joins left c) = left
awaited_children _ = 0

-- a process that has not ended
abbrev pub IsLive : {S : Type 0} → Condition S → Type 0
IsLive Absent = ⊥
IsLive Gone = ⊥
IsLive (Over c) = ⊥
IsLive _ = Unit {0}

module _ (g : CodeRun) {Area : Type 0} (H : Area → List Home) (E : Area → ℕ → Type 0) (T : List Area
    → Config (Memory Plain) → Type 0) (Room Cells : ℕ → ℕ → Type 0) where
  -- a spot that moved to a child is that of a variable which both may touch, with the same cells in the frames of both
  pub record MovedSpot (a : Area) (fs : List Frame) (b : Base g H E T) (q : Spot) : Type 0 where
    pub variable : ℕ
    pub here : E a variable
    pub there : E b.area variable
    pub stands : spot_of g.code.layouts fs variable ≡ Some q
    pub stood : spot_of g.code.layouts b.frames variable ≡ Some q
    pub alike : 2 ≤ variable → extent g.code.layouts b.frames variable ≡ extent g.code.layouts fs variable

  -- what moved to these processes
  abbrev pub moved_to : (ℕ → Base g H E T) → List ℕ → List Spot
  moved_to base [] = []
  moved_to base (r ∷ rs) = (base r).moved ++ moved_to base rs

  -- now is what is left of the whole map of a process that joins these children, and stood in area a with these frames
  pub record Lent (base : ℕ → Base g H E T) (rs : List ℕ) (a : Area) (fs : List Frame) (now whole : Map) : Type 0 where
    pub away : (q : Spot) → In q (moved_to base rs) → map.get now q ≡ Some Away
    pub rest : (q : Spot) → NotIn q (moved_to base rs) → map.get now q ≡ map.get whole q
    pub distinct : IsDistinct (moved_to base rs)
    pub transferred : (r : ℕ) → IsMember r rs → (q : Spot) → In q (base r).moved → MovedSpot a fs (base r) q

  -- with another map
  abbrev pub with_whole : Map → Config (Memory Plain) → Config (Memory Plain)
  with_whole m c = on_store (λ (s : Plain). record { map = m; own = s.own; moved = s.moved }) c

  -- a process that joins these children lives by its whole map
  pub record JoinInvariant (base : ℕ → Base g H E T) (b : Base g H E T) (rs : List ℕ)
      (c : Config (Memory Plain)) : Type 0 where
    pub area : Area
    pub callers : List Area
    pub whole : Map
    pub lives : HasActivations g H E T b (area ∷ callers) (with_whole whole c)
    pub stands : T (area ∷ callers) c
    pub lent : Lent base rs area (frames_of c) (store_of c).map whole

  -- a process lives in its condition
  abbrev pub LivesIn : (ℕ → Base g H E T) → Base g H E T → List ℕ → Condition Plain → Type 0
  LivesIn base b rs (Working c) = (us : List Area) × HasActivations g H E T b us c × T us c
  LivesIn base b rs (Waits stop c) = (us : List Area) × HasActivations g H E T b us c × T us c
      × StopInvariant g H E T Room Cells stop us c
  LivesIn base b rs (Joins left c) = JoinInvariant base b rs c
  LivesIn _ _ _ _ = Unit {0}

  -- all processes: each lives, and who has not ended is awaited by its parent
  pub record Inv (condition : ℕ → Condition Plain) (births : Births) : Type 0 where
    pub base : ℕ → Base g H E T
    pub children : ℕ → List ℕ
    pub each : (q : ℕ) → LivesIn base (base q) (children q) (condition q)
    pub count : (q : ℕ) → length (children q) ≡ awaited_children (condition q)
    pub all : (q : ℕ) (x : Birth) → births.birth q ≡ Some x → IsLive (condition q) → IsMember q (children x.parent)
    pub young : (q : ℕ) → births.processes ≤ q → condition q ≡ Absent
    pub known : (q r : ℕ) → IsMember r (children q) → r < births.processes
    pub older : (q : ℕ) (x : Birth) → births.birth q ≡ Some x → x.parent < q
