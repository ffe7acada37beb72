-- Some of this belongs to what the program promises (docs/promise.txt).
-- Code that runs safely: each turn ends, finds what its instructions need and touches what its process holds alone.
-- The machine, the kernel and the runner require it, and generated code has it; so no part checks at run time what is
-- proved once.
use Rattle.std.specs.Prelude.{◌≡◌, ℕ, ◌+◌, ◌*◌, ◌≤◌, ◌==◌, ℤ, List, [], ◌∷◌, ◌++◌, length, Some, None, false}
use Rattle.std.specs.Prelude.{if◌then◌else◌, slice_get}
use Rattle.std.specs.FinMap as map
use Rattle.sp_base.specs.declared.limits.Limits.{Limits}
use Rattle.sp_base.specs.declared.limits.TheConstants.{TURN_TICKS}
use Rattle.sp_cell.specs.declared.cell.Cell.{Cell}
use Rattle.sp_cell.specs.declared.spot.Spot.{Spot}
use Rattle.sp_cell.specs.declared.spot.Address.{Address}
use Rattle.sp_cell.specs.declared.spot.Handing.{Handing}
use Rattle.sp_cell.specs.Map.{Plain, IsOwn, HasCells}
use Rattle.sp_cell.specs.Frame.{HasNextFrame}
use Rattle.sp_cell.specs.Fork.{moved_of, shared_of, HasIndex}
use Rattle.sp_cell.specs.Spots.{In, NotIn, IsDistinct, AllHeld, AllPieces, AllAway}
use Rattle.sp_cell.specs.Holders.{View, IsPartition}
use Rattle.sp_journal.specs.declared.entry.Entry.{Entry}
use Rattle.sp_journal.specs.declared.entry.Birth.{Birth}
use Rattle.sp_journal.specs.Queue.{numbers}
use Rattle.sp_code.specs.declared.code.Layout.{Layout}
use Rattle.sp_code.specs.declared.code.Parts.{Parts}
use Rattle.sp_code.specs.Machine.{Stop, Forks, Sends, Receives, Ends, Config, At}
use Rattle.sp_code.specs.Turns.{Stopped, IsTurn, IsSafe}
use Rattle.sp_code.specs.Memory.{CodeRun, Frame, Memory, memory}
use Rattle.sp_code.specs.PlainStore.{plain}
use Rattle.sp_code.specs.Ranks.{IsRankedAlong}
use Rattle.sp_code.specs.Formals.{HaveFormals}
use Rattle.sp_code.specs.System.{System, Condition, Absent, Working, Waits, Joins, Laid, Gone, Over, store_of, plan_of}
use Rattle.sp_code.specs.System.{IsSystem, fault_of}

-- a run of code on an input, with these limits
abbrev pub run_of : Parts → List ℕ → Limits → CodeRun
run_of code input lim = record { code = code; input = input; limits = lim; pause = TURN_TICKS }

-- ---- who holds what

-- one number for a frame of a process
abbrev pub identity : ℕ → ℕ → ℕ
identity process frame = (process + frame) * (process + frame) + frame

-- what a frame number of a process means: the frame that it made under that number, or the one that it had from its
-- parent
abbrev pub means : List Frame → ℕ → ℕ
means [] n = identity 0 n
means (f ∷ fs) n = if f.number == n then identity f.owner f.number else means fs n

-- the store of a process with what its frames mean
abbrev pub view_at : Config (Memory Plain) → View
view_at (At pc st n) = record { map = n.store.map; means = means n.frames }

-- the store of a process, if it has one
abbrev pub views_at : Condition Plain → List View
views_at Absent = []
views_at (Working c) = view_at c ∷ []
views_at (Waits stop c) = view_at c ∷ []
views_at (Joins left c) = view_at c ∷ []
views_at (Laid c) = view_at c ∷ []
views_at Gone = []
views_at (Over c) = view_at c ∷ []

-- those of all these processes
abbrev pub views_of : (ℕ → Condition Plain) → List ℕ → List View
views_of condition [] = []
views_of condition (q ∷ qs) = views_at (condition q) ++ views_of condition qs

-- held: each variable of a live frame is own in one store at most; where it is shared, all that share it have equal
-- cells and none owns it; every other store that knows it has it away
abbrev pub Held : System Plain → Type 0
Held s = IsPartition (views_of s.condition (numbers 0 s.births.processes))

-- ---- sound code

-- no two layouts are of one block
abbrev pub HasDistinctBlocks : List Layout → Type 0
HasDistinctBlocks ls = (i j : ℕ) (l m : Layout) → slice_get ls i ≡ Some l → slice_get ls j ≡ Some m → l.block ≡ m.block
    → i ≡ j

-- a fork can be carried out: what it hands over is held, nothing is moved twice, and nothing that is moved is shared
pub record CanSplit (p : Plain) (hs : List Handing) : Type 0 where
  pub held : AllHeld p.map (moved_of hs)
  pub pieces : AllPieces p.map (shared_of hs)
  pub distinct : IsDistinct (moved_of hs)
  pub apart : (q : Spot) → In q (moved_of hs) → NotIn q (shared_of hs)
  pub number : HasIndex hs → HasNextFrame p

-- a child can be joined: it has no frame left, it holds what moved to it, and that is away here
pub record CanJoin (p c : Plain) : Type 0 where
  pub no_frame : c.own ≡ []
  pub held : AllHeld c.map c.moved
  pub away : AllAway p.map c.moved

-- a message fits at its receiver's address, in a piece of its own
pub record CanPut (p : Plain) (a : Address) (cells : List Cell) : Type 0 where
  pub own : IsOwn (map.get p.map a.spot)
  pub in_range : HasCells p.map a (length cells)

module _ (g : CodeRun) where
  -- the turn of process q stops so, with no fault of a total, an offer or another process
  pub record StopsAt (s : System Plain) (q : ℕ) (stop : Stop) (d : Config (Memory Plain)) : Type 0 where
    pub configuration : Config (Memory Plain)
    pub runs : s.condition q ≡ Working configuration
    pub turn : IsTurn (memory plain g) g.code configuration (Stopped stop d)
    pub no_fault : s.faulted ≡ false
    pub fine : fault_of g.limits s (Stopped stop d) ≡ None

  -- all is well with the next turn of each process and with its event
  pub record IsSafeSystem (s : System Plain) : Type 0 where
    pub turns : (q : ℕ) (c : Config (Memory Plain)) → s.condition q ≡ Working c → IsSafe (memory plain g) g.code c
    pub ranks : (q : ℕ) (c : Config (Memory Plain)) → s.condition q ≡ Working c
        → IsRankedAlong (memory plain g) g.code c
    pub forks : (q table count : ℕ) (value : ℤ) (d : Config (Memory Plain)) → StopsAt s q (Forks table value count) d
        → CanSplit (store_of d) (plan_of plain g d table value count)
    pub ends : (q left : ℕ) (b : Birth) (d e : Config (Memory Plain)) → StopsAt s q Ends d → s.births.birth q ≡ Some b
        → s.condition b.parent ≡ Joins left e → CanJoin (store_of e) (store_of d)
    pub sends : (q z c k j : ℕ) (a : Address) (cells : List Cell) (d e : Config (Memory Plain))
        → StopsAt s q (Sends c k cells) d → s.pending c ≡ Some z → s.condition z ≡ Waits (Receives c j a) e
        → CanPut (store_of e) a cells
    pub receives : (q z c k j : ℕ) (a : Address) (cells : List Cell) (d e : Config (Memory Plain))
        → StopsAt s q (Receives c k a) d → s.pending c ≡ Some z → s.condition z ≡ Waits (Sends c j cells) e
        → CanPut (store_of d) a cells

-- limits within their types, with room for the first process
pub record AreLimits (lim : Limits) : Type 0 where
  pub depth : lim.depth ≤ 4294967295
  pub cells : lim.cells ≤ 4294967295
  pub processes : lim.processes ≤ 4294967295
  pub channels : lim.channels ≤ 4294967295
  pub entries : lim.entries ≤ 4294967295
  pub root : 1 ≤ lim.processes

-- for every input, every journal and all limits within their types
pub record IsSound (code : Parts) : Type 0 where
  pub blocks : HasDistinctBlocks code.layouts
  pub formals : HaveFormals code.layouts
  pub safe : (input : List ℕ) (lim : Limits) → AreLimits lim → (es : List Entry) (s : System Plain)
      → IsSystem plain (run_of code input lim) es s → IsSafeSystem (run_of code input lim) s
