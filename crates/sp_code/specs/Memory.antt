-- All of this belongs to what the program promises (docs/promise.txt).
-- The memory of a process: its frames and its counts beside its store. It is the memory with which the machine's
-- definition runs; the store is left open, for the plain maps of PlainStore.antt.
use Rattle.std.specs.Option.{option_map, option_map_or, unwrap_or}
use Rattle.std.specs.Prelude.{ℕ, zero, suc, ◌+◌, ◌-◌, pos, nat_abs, List, [], ◌∷◌, Option, Some, None, Bool, true}
use Rattle.std.specs.Prelude.{false, ◌&&◌, if◌then◌else◌, nat_lt, nat_le, length, drop, sum, slice_set, slice_index_or}
use Rattle.sp_base.specs.declared.fault.Fault.TheVariants as fault
use Rattle.sp_base.specs.declared.limits.Limits.{Limits}
use Rattle.sp_cell.specs.declared.cell.Cell.{Cell}
use Rattle.sp_cell.specs.declared.cell.Cell.TheVariants as cell
use Rattle.sp_cell.specs.declared.spot.Spot.{Spot}
use Rattle.sp_cell.specs.declared.spot.Address.{Address}
use Rattle.sp_cell.specs.declared.spot.Handing.{Handing}
use Rattle.sp_cell.specs.Lists.{splice, part}
use Rattle.sp_code.specs.declared.code.Layout.{Layout}
use Rattle.sp_code.specs.declared.code.Parts.{Parts}
pub use Rattle.sp_tree.specs.Around.{reference_target}
use Rattle.sp_code.specs.Machine.{Entry, Number, Chan, Pointer, Cells, MemoryResult, Done, Failed, Ops}
use Rattle.sp_code.specs.Machine.{Config, At}
use Rattle.sp_code.specs.Machine.{layout_of}

-- what a run is of: the code, the input, the limits, and after how many ticks since its last entry a process has to
-- pause
pub record CodeRun : Type 0 where
  pub code : Parts
  pub input : List ℕ
  pub limits : Limits
  pub pause : ℕ

-- what is asked of a store
pub record Stores (S : Type 0) : Type 0 where
  -- the cells of the piece that is held at a spot, own or shared; with an own piece of these cells there
  pub piece : S → Spot → Option (List Cell)
  pub owned : S → Spot → List Cell → S
  -- the output, where it is held; with bytes after it
  pub output : S → Option (List ℕ)
  pub appended : S → List ℕ → S
  -- the number of the next frame; with a new frame of undefined pieces
  pub next_frame : S → ℕ
  pub pushed : S → List ℕ → S
  -- the newest own frame has this number, and nothing of it is away; without that frame
  pub may_pop : S → ℕ → Bool
  pub popped : S → S
  -- the store of a run's first process; a fork's child, and what it leaves; a child's pieces given back
  pub root : List ℕ → S
  pub child : S → Handing → S
  pub handed : S → List Handing → S
  pub joined : S → S → S

-- a frame is that of a block, or of the index of a forall
pub data Home : Type 0 where
  OfBlock : (block : ℕ) → Home
  OfIndex : (variable : ℕ) → Home

-- the process that made the frame, and its number in that one's store; link is how long the list of frames is that
-- begins with the enclosing frame, 0 where there is none; references are what the variable parameters stand for, by
-- their numbers
pub record Frame : Type 0 where
  pub owner : ℕ
  pub number : ℕ
  pub home : Home
  pub link : ℕ
  pub references : List (ℕ × Address)

-- the process's number; its live frames, the newest first, a child's above its parent's; its depth, its ticks, those
-- that it had made at its last entry, the cells of its own live frames; and its store
pub record Memory (S : Type 0) : Type 0 where
  pub process : ℕ
  pub frames : List Frame
  pub depth : ℕ
  pub ticks : ℕ
  pub since : ℕ
  pub cells : ℕ
  pub store : S

-- ---- frames

-- the end of a list of frames that is so long
abbrev pub last_frames : ℕ → List Frame → List Frame
last_frames n fs = drop (length fs - n) fs

-- the frames from the one so many static levels outward on
abbrev pub frames_up : ℕ → List Frame → List Frame
frames_up zero fs = fs
frames_up (suc k) [] = []
frames_up (suc k) (f ∷ fs) = frames_up k (last_frames f.link fs)

abbrev pub is_there : {A : Type 0} → List A → Bool
is_there [] = false
is_there (x ∷ xs) = true

-- a variable's first cell
abbrev pub cell_at : ℕ → ℕ → Address
cell_at frame variable = record { spot = record { frame = frame; variable = variable }; offset = 0 }

-- a variable of the first of these frames
abbrev pub addr_in : List Frame → ℕ → Option Address
addr_in [] var = None
addr_in (f ∷ fs) var = Some (cell_at f.number var)

-- what a variable parameter of the newest frame stands for
abbrev pub deref_in : List Frame → ℕ → Option Address
deref_in [] var = None
deref_in (f ∷ fs) var = reference_target var f.references

-- the addresses among arguments, by the numbers of their parameters, from k on
abbrev pub references : ℕ → List Entry → List (ℕ × Address)
references k [] = []
references k (Pointer a ∷ es) = (k, a) ∷ references (suc k) es
references k (e ∷ es) = references (suc k) es

-- the cells of a layout's frame; a block that is not there has none
abbrev pub sizes_of : Option Layout → List ℕ
sizes_of l = option_map_or (λ l. l.sizes) l []

abbrev pub cells_of_home : List Layout → Home → ℕ
cells_of_home ls (OfBlock b) = sum (sizes_of (layout_of ls b))
cells_of_home ls (OfIndex x) = 0

-- the result stands behind the parameters
abbrev pub answer_by : ℕ → Option Layout → Option Address
answer_by number l = option_map (λ l. cell_at number (length l.formals)) l

abbrev pub answer_of : List Layout → ℕ → Home → Option Address
answer_of ls number (OfBlock b) = answer_by number (layout_of ls b)
answer_of ls number (OfIndex x) = None

-- where the result of the newest frame's block stands
abbrev pub answer_in : List Layout → List Frame → Option Address
answer_in ls [] = None
answer_in ls (f ∷ fs) = answer_of ls f.number f.home

-- ---- cells

-- the cells, or none
abbrev pub cells_in : Option (List Cell) → List Cell
cells_in cs = unwrap_or cs []

-- so many cells from an offset on
abbrev pub has_cells : Option (List Cell) → ℕ → ℕ → Bool
has_cells cs offset k = option_map_or (λ cs. nat_le (offset + k) (length cs)) cs false

-- the input's position is variable 0 of frame 0
abbrev pub position_at : Address
position_at = cell_at 0 0

-- the position that a piece holds, if it does
abbrev pub position_in : Option (List Cell) → Option ℕ
position_in (Some (cell.Ordinal n ∷ cs)) = Some (nat_abs n)
position_in _ = None

-- the input from a position on
abbrev pub left_after : List ℕ → Option ℕ → Option (List ℕ)
left_after input n = option_map (λ n. drop n input) n

abbrev pub or_zero : Option ℕ → ℕ
or_zero n = unwrap_or n 0

abbrev pub is_held : {A : Type 0} → Option A → Bool
is_held None = false
is_held (Some x) = true

abbrev pub bytes_in : Option (List ℕ) → List ℕ
bytes_in bs = unwrap_or bs []

module _ {S : Type 0} (stores : Stores S) where
  -- the memory with another store
  abbrev pub with_store : Memory S → S → Memory S
  with_store n s = record n { store = s }

  abbrev pub cells_at : S → Spot → List Cell
  cells_at s p = cells_in (stores.piece s p)

  -- with one cell put, with cells put, with cells copied
  abbrev pub put_cell : Address → Cell → S → S
  put_cell a c s = stores.owned s a.spot (slice_set (cells_at s a.spot) a.offset c)

  -- cells over those at an address
  abbrev pub put_cells : Address → List Cell → S → S
  put_cells a cs s = stores.owned s a.spot (splice (cells_at s a.spot) a.offset cs)

  -- k cells copied
  abbrev pub copy_cells : (to from : Address) → ℕ → S → S
  copy_cells to from k s = put_cells to (part (cells_at s from.spot) from.offset k) s

  -- the arguments by value go into the variables of frame n, from variable k on
  abbrev pub with_arguments : ℕ → ℕ → List Entry → S → S
  with_arguments n k [] s = s
  with_arguments n k (Number v ∷ es) s = with_arguments n (suc k) es (put_cell (cell_at n k) (cell.Ordinal v) s)
  with_arguments n k (Chan c ∷ es) s = with_arguments n (suc k) es (put_cell (cell_at n k) (cell.Channel c) s)
  with_arguments n k (Cells cs ∷ es) s = with_arguments n (suc k) es (put_cells (cell_at n k) cs s)
  with_arguments n k (e ∷ es) s = with_arguments n (suc k) es s

  module _ (g : CodeRun) where
    -- the memory after a call of a block whose enclosing frame is so many levels outward
    abbrev pub memory_after_call : Layout → (up : ℕ) → List Entry → Memory S → Memory S
    memory_after_call l up es n = record n {
      frames = record {
        owner = n.process;
        number = stores.next_frame n.store;
        home = OfBlock l.block;
        link = length (frames_up up n.frames);
        references = references 0 es;
      } ∷ n.frames;
      depth = n.depth + 1;
      ticks = n.ticks + 1;
      cells = n.cells + sum l.sizes;
      store = with_arguments (stores.next_frame n.store) 0 es (stores.pushed n.store l.sizes);
    }

    -- a call: tick, depth, cells
    abbrev pub pushes : Layout → (up : ℕ) → List Entry → Memory S → MemoryResult (Memory S)
    pushes l up es n =
        if nat_lt n.ticks g.limits.ticks then (
        if nat_lt n.depth g.limits.depth then (
        if nat_lt g.limits.cells (n.cells + sum l.sizes) then Failed fault.F12 else Done
        (memory_after_call l up es n)) else
        Failed fault.F11) else Failed fault.F10

    -- the newest frame goes
    abbrev pub without_frame : List Frame → Memory S → Memory S
    without_frame [] n = n
    without_frame (f ∷ fs) n = record n {
      frames = fs;
      depth = n.depth - 1;
      cells = n.cells - cells_of_home g.code.layouts f.home;
      store = stores.popped n.store;
    }

    -- the newest frame may go
    abbrev pub can_pop : List Frame → S → Bool
    can_pop [] s = false
    can_pop (f ∷ fs) s = stores.may_pop s f.number

    -- the operations of the machine
    abbrev pub memory : Ops (Memory S)
    memory = record {
      addr = λ up var n. addr_in (frames_up up n.frames) var;
      deref = λ up var n. deref_in (frames_up up n.frames) var;
      answer = λ n. answer_in g.code.layouts n.frames;
      has = λ a k n. has_cells (stores.piece n.store a.spot) a.offset k;
      read = λ a n. slice_index_or (cells_at n.store a.spot) a.offset cell.Undefined;
      cells = λ a k n. part (cells_at n.store a.spot) a.offset k;
      put = λ a c n. with_store n (put_cell a c n.store);
      copy = λ to from k n. with_store n (copy_cells to from k n.store);
      make_own = λ a n. with_store n (stores.owned n.store a.spot (cells_at n.store a.spot));
      left = λ n. left_after g.input (position_in (stores.piece n.store position_at.spot));
      advance = λ k n. with_store n (put_cell position_at
          (cell.Ordinal (pos (or_zero (position_in (stores.piece n.store position_at.spot)) + k))) n.store);
      has_output = λ n. is_held (stores.output n.store);
      print = λ t n. if nat_lt g.limits.output (length (bytes_in (stores.output n.store)) + length t) then
          Failed fault.F16 else Done (with_store n (stores.appended n.store t));
      tick = λ n. if nat_lt n.ticks g.limits.ticks then Done (record n { ticks = n.ticks + 1 }) else Failed fault.F10;
      can_push = λ up n. is_there (frames_up up n.frames) && nat_le (stores.next_frame n.store) 18446744073709551615;
      open_frame = pushes;
      may_close = λ n. can_pop n.frames n.store;
      close_frame = λ n. without_frame n.frames n;
      may_fork = λ n. nat_lt n.depth g.limits.depth;
      due = λ n. nat_le (n.since + g.pause) n.ticks;
      fits = λ n. nat_le n.cells g.limits.cells;
    }

    -- the first process: its frame is the program's
    abbrev pub first_memory : Option Layout → Memory S
    first_memory l = record {
      process = 0;
      frames = record { owner = 0; number = 0; home = OfBlock 0; link = 0; references = [] } ∷ [];
      depth = 0;
      ticks = 0;
      since = 0;
      cells = sum (sizes_of l);
      store = stores.root (sizes_of l);
    }

    -- where a block's code begins
    abbrev pub entry_of : Option Layout → ℕ
    entry_of l = option_map_or (λ l. l.entry) l 0

    -- the first process of a run
    abbrev pub first_process : Config (Memory S)
    first_process = At (entry_of (layout_of g.code.layouts 0)) [] (first_memory (layout_of g.code.layouts 0))
