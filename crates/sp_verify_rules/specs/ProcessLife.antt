-- None of this belongs to what the program promises: it is for contracts between crates.
-- A process of verified code along its life: what it began with, and what it holds.
use Rattle.std.specs.Prelude.{◌≡◌, ◌≢◌, ◌⊎◌, ℕ, ◌+◌, ◌<◌, ◌≤◌, ℤ, List, [], ◌∷◌, length, Some, slice_get}
use Rattle.std.specs.FinMap as map
use Rattle.sp_tree.specs.Interference.{IsMember, AllDifferent}
use Rattle.sp_cell.specs.declared.spot.Spot.{Spot}
use Rattle.sp_cell.specs.declared.spot.Address.{Address}
use Rattle.sp_cell.specs.Map.{Plain, IsOwn}
use Rattle.sp_code.specs.declared.code.ChildTable.{ChildTable}
use Rattle.sp_code.specs.Machine.{Stop, Forks, Opens, Sends, Receives, Ends, Pauses, Config}
use Rattle.sp_code.specs.Memory.{CodeRun, Home, Frame, Memory}
use Rattle.sp_code.specs.PlainStore.{plain}
use Rattle.sp_code.specs.System.{spot_of, frames_of, store_of, depth_of, child_or, table_or, child_process}
use Rattle.sp_code.specs.Tables.{child_at}
use Rattle.sp_verify_rules.specs.Areas.{with_home}
use Rattle.sp_verify_rules.specs.Chains.{all_variables}
use Rattle.sp_verify_rules.specs.Extents.{extent}
use Rattle.sp_verify_rules.specs.Forks.{handed_to}
use Rattle.sp_verify_rules.specs.HeldEffects.{Holding}

-- H: the blocks and indices around an area; E: what an activation of it may touch; T: how a process stands, whose
-- activations are of these areas, the newest first (nothing of it is about its store)
module _ (g : CodeRun) {Area : Type 0} (H : Area → List Home) (E : Area → ℕ → Type 0) (T : List Area
    → Config (Memory Plain) → Type 0) where
  -- the area in which a process began, the frames that it had then, and the spots that moved to it
  pub record Base : Type 0 where
    pub area : Area
    pub frames : List Frame
    pub moved : List Spot

  -- the process has the input or the output
  abbrev pub HasConsole : Area → Type 0
  HasConsole a = E a 0 ⊎ E a 1

  -- the last activation is the one with which it began
  abbrev pub IsLast : List Area → List Frame → Base → Type 0
  IsLast [] fs b = ⊥
  IsLast (a ∷ []) fs b = (a ≡ b.area) × (fs ≡ b.frames)
  IsLast (a ∷ c ∷ us) [] b = ⊥
  IsLast (a ∷ c ∷ us) (f ∷ fs) b = IsLast (c ∷ us) fs b

  -- a process that began so, with these activations
  pub record HasActivations (b : Base) (us : List Area) (c : Config (Memory Plain)) : Type 0 where
    pub holding : Holding g.code.layouts H E (HasConsole b.area) us (frames_of c) (depth_of c) (store_of c)
    pub last : IsLast us (frames_of c) b
    pub moved : (store_of c).moved ≡ b.moved

  -- what is known of child k of a fork in area a, which begins in area e
  pub record IsChild (a e : Area) (t : ChildTable) : Type 0 where
    pub homes : H e ≡ with_home t.index (H a)
    pub rights : (x : ℕ) → E e x → IsMember x (handed_to t) ⊎ (t.index ≡ Some x)
    pub given : (x : ℕ) → IsMember x (handed_to t) ⊎ (t.index ≡ Some x) → E e x
    pub effect : (x : ℕ) → IsMember x (handed_to t) → E a x
    pub around : (x : ℕ) → IsMember x (handed_to t) → 2 ≤ x → IsMember x (all_variables g.code.layouts (H a))
    pub once : AllDifferent (handed_to t)
    pub no_output : IsMember 1 t.shared → ⊥
    pub index : (x : ℕ) → t.index ≡ Some x → (2 ≤ x) × (IsMember x (all_variables g.code.layouts (H a)) → ⊥)

  abbrev pub table_of : ℕ → ℕ → ChildTable
  table_of t j = child_or (child_at (table_or (slice_get g.code.forks t)) j)

  -- a fork of the first of these activations: the areas of its children, how each of them stands, and that no two clash
  pub record ForkInvariant (a : Area) (t : ℕ) (value : ℤ) (n : ℕ) (d : Config (Memory Plain)) : Type 0 where
    pub area : ℕ → Area
    pub children : (j : ℕ) → j < n → IsChild a (area j) (table_of t j)
    pub clear : (j k x : ℕ) → j < n → k < n → j ≢ k → IsMember x (table_of t j).moved
        → IsMember x (handed_to (table_of t k)) → ⊥
    pub stands : (j q : ℕ) → j < n → T (area j ∷ []) (child_process plain g d value q j (table_of t j))

  -- a variable that the first activation may touch stands there, with room for n cells from the address on
  pub record Aims (a : Area) (fs : List Frame) (p : Address) (n : ℕ) : Type 0 where
    pub variable : ℕ
    pub real : 2 ≤ variable
    pub effect : E a variable
    pub stands : spot_of g.code.layouts fs variable ≡ Some p.spot
    pub size : ℕ
    pub whole : extent g.code.layouts fs variable ≡ Some size
    pub fits : p.offset + n ≤ size

  -- what is known of a process of these activations that stopped so; room, cells: how many cells a message of a type
  -- may have where it is received, and has where it is sent
  abbrev pub StopInvariant : (Room Cells : ℕ → ℕ → Type 0) → Stop → List Area → Config (Memory Plain) → Type 0
  StopInvariant Room Cells s [] d = ⊥
  StopInvariant Room Cells (Forks t v n) (a ∷ us) d = ForkInvariant a t v n d
  StopInvariant Room Cells (Opens p) (a ∷ us) d = Aims a (frames_of d) p 1
  StopInvariant Room Cells (Sends ch k cs) (a ∷ us) d = Cells k (length cs)
  StopInvariant Room Cells (Receives ch k p) (a ∷ us) d = ((n : ℕ) × Room k n × Aims a (frames_of d) p n)
      × IsOwn (map.get (store_of d).map p.spot)
  StopInvariant Room Cells Ends (a ∷ us) d = us ≡ []
  StopInvariant Room Cells Pauses (a ∷ us) d = Unit {0}
