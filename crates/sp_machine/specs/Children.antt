-- None of this belongs to what the program promises: it is for contracts between crates.
-- The children of a fork: their frames, numbers and first instructions. The contracts of `children` and of a process's
-- fork promise it, and the kernel's forks cite it; the stores come from `sp_store`'s `split`.
use Rattle.std.specs.Prelude.{◌≡◌, ℕ, ◌+◌, ◌<◌, ℤ, List, [], ◌∷◌, length, get_or, slice_get, Option, Some, None}
use Rattle.sp_base.specs.declared.limits.Limits.{Limits}
use Rattle.sp_cell.specs.declared.spot.Handing.{Handing}
use Rattle.sp_cell.specs.Map.{Plain}
use Rattle.sp_cell.specs.Fork.{index_frame}
use Rattle.sp_code.specs.declared.code.ChildTable.{ChildTable}
use Rattle.sp_code.specs.declared.code.ForkTable.{ForkTable}
use Rattle.sp_code.specs.declared.code.Layout.{Layout}
use Rattle.sp_code.specs.declared.code.Parts.{Parts}
use Rattle.sp_code.specs.Machine.{At}
use Rattle.sp_code.specs.Memory.{Frame, OfIndex}
use Rattle.sp_code.specs.PlainStore.{plain}
use Rattle.sp_code.specs.Sound.{run_of}
use Rattle.sp_code.specs.System.{spots_of, plan_from, child_process, child_or, table_or}
use Rattle.sp_code.specs.Tables.{child_at}
use Rattle.sp_machine.specs.declared.state.State.{State}
use Rattle.sp_machine.specs.Procs.{config_of}

-- the index of a child with this value, if it has one
abbrev pub index_with_value : ℤ → Option ℕ → Option (ℕ × ℤ)
index_with_value value None = None
index_with_value value (Some x) = Some (0, value)

-- what a child is handed whose index, if it has one, has this value
abbrev pub handed_to : List Layout → List Frame → ℤ → ChildTable → Handing
handed_to ls fs value c = record {
  moved = spots_of ls fs c.moved;
  shared = spots_of ls fs c.shared;
  index = index_with_value value c.index;
}

-- the frames of a parent, and above them that of an index
abbrev pub with_frame : ℕ → Handing → Option ℕ → List Frame → List Frame
with_frame q h None fs = fs
with_frame q h (Some x) fs = record {
  owner = q;
  number = index_frame h;
  home = OfIndex x;
  link = length fs;
  references = [];
} ∷ fs

-- a child at its first instruction, but for its store
abbrev pub IsBornSo : State → ℕ → ℕ → List Frame → State → Type 0
IsBornSo p q entry fs parent =
    ((s : Plain) → config_of (record p { store = s })
    ≡ At entry [] (record {
      process = q;
      frames = fs;
      depth = parent.depth + 1;
      ticks = 0;
      since = 0;
      cells = 0;
      store = s;
    })) × ((p.number ≡ q) × (p.input.value ≡ parent.input.value))

-- a child by its handing and its table
abbrev pub BornOf : State → Handing → ChildTable → ℕ → State → Type 0
BornOf p h c q parent = IsBornSo p q c.entry (with_frame q h c.index parent.frames) parent

-- the first n children, but for their stores
abbrev pub AreBornSo : List State → List Handing → ForkTable → ℕ → State → ℕ → Type 0
AreBornSo cs hs t number parent n = (k : ℕ) (d : State) (h : Handing) → k < n
    → BornOf (get_or cs k d) (get_or hs k h) (child_or (child_at t k)) (number + k) parent

-- what the fork hands over at which a process stopped
abbrev pub plan_by : Parts → State → ℕ → List Handing
plan_by code p count = plan_from code.layouts p.frames (table_or (slice_get code.forks p.table)) p.first 0 count

-- child k of a fork at which a process stopped
abbrev pub IsNewborn : Parts → State → ForkTable → ℕ → ℕ → State → Type 0
IsNewborn code p t number k c =
    ((lim : Limits) → config_of c ≡ child_process plain (run_of code p.input.value lim) (config_of p) p.first
    (number + k) k
    (child_or (child_at t k))) × ((c.number ≡ number + k) × (c.input.value ≡ p.input.value))

-- all children
abbrev pub AreNewborn : Parts → State → ForkTable → ℕ → ℕ → List State → Type 0
AreNewborn code p t number count cs = (length cs ≡ count)
    × ((k : ℕ) (d : State) → k < count → IsNewborn code p t number k (get_or cs k d))
