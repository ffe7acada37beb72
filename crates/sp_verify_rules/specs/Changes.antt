-- None of this belongs to what the program promises: it is for contracts between crates.
-- How one instruction of a process that stands changes its memory, and with it the areas of its activations. What a
-- process holds is kept along it.
use Rattle.std.specs.Prelude.{◌≡◌, ℕ, ◌+◌, ◌≤◌, List, [], ◌∷◌, Option, Some, true, length, nat_lt}
use Rattle.sp_tree.specs.Interference.{IsMember}
use Rattle.sp_cell.specs.declared.cell.Cell.{Cell}
use Rattle.sp_cell.specs.declared.spot.Address.{Address}
use Rattle.sp_code.specs.declared.instr.Instr.{Instr}
use Rattle.sp_code.specs.declared.instr.Instr.TheVariants as i
use Rattle.sp_code.specs.declared.code.Layout.{Layout}
use Rattle.sp_code.specs.declared.code.Parts.{Parts}
use Rattle.sp_code.specs.Machine.{Entry, Stop, Forks, Receives, Ends, Pauses, At, StepResult, Goes, Stops}
use Rattle.sp_code.specs.Machine.{Fails}
use Rattle.sp_code.specs.Machine.{Stuck, layout_of}
use Rattle.sp_code.specs.Memory.{CodeRun, Stores, Frame, Memory, memory, with_store, memory_after_call}
use Rattle.sp_verify_rules.specs.Areas.{Area, Body}
use Rattle.sp_verify_rules.specs.Shapes.{Shape}
use Rattle.sp_verify_rules.specs.Touches.{stored_by}
use Rattle.sp_verify_rules.specs.InstructionFacts.{Points, HasShape, Caller, ProcessAt, StoppedAt}
use Rattle.sp_verify_rules.specs.Rules.{fit_formals, lowest_first}

-- entries are of these shapes, one by one
abbrev pub Pairs : List Layout → List Frame → List Shape → List Entry → Type 0
Pairs ls fs [] [] = Unit {0}
Pairs ls fs [] (e ∷ es) = ⊥
Pairs ls fs (s ∷ ss) [] = ⊥
Pairs ls fs (s ∷ ss) (e ∷ es) = HasShape ls fs s e × Pairs ls fs ss es

-- the areas of callers, and those of all activations, the newest first
abbrev pub areas_of : List Caller → List Area
areas_of [] = []
areas_of (k ∷ ks) = k.area ∷ areas_of ks

abbrev pub areas : {c : Parts} {p : ℕ} {st : List Entry} {fs : List Frame} → ProcessAt c p st fs → List Area
areas s = s.area ∷ areas_of s.callers

-- a stop at which the process goes on where it stopped, with this memory: one level more is allowed to a fork; what is
-- received comes into a piece of its own
module _ {S : Type 0} (stores : Stores S) (g : CodeRun) where
  abbrev pub IsHere : Memory S → Stop → List Area → List Area → Type 0
  IsHere m Pauses us vs = Unit {0}
  IsHere m (Forks t v k) us vs = (us ≡ vs) × ((memory stores g).may_fork m ≡ true)
  IsHere m (Receives ch k q) us vs = (us ≡ vs) × ((n : Memory S) × (m ≡ (memory stores g).make_own q n))
  IsHere _ _ us vs = us ≡ vs

module _ {S : Type 0} (stores : Stores S) (g : CodeRun) (a : Area) (o : Option Instr) (ss : List Shape)
    (n : Memory S) where
  -- so many cells of a variable that the instruction stores are at an address
  pub record Target (q : Address) (k : ℕ) : Type 0 where
    pub variable : ℕ
    pub left : ℕ
    pub points : Points g.code.layouts n.frames variable left q
    pub room : k ≤ left
    pub stored : IsMember variable (stored_by g.code a o ss)

  -- the memory was n, with activations of the areas us; it is m, with those of the areas vs
  pub data Changes (us vs : List Area) (m : Memory S) : Type 0 where
    Unchanged : vs ≡ us → m ≡ n → Changes us vs m
    Ticks : vs ≡ us → m ≡ record n { ticks = n.ticks + 1 } → Changes us vs m
    PutsCell : (q : Address) (d : Cell) → vs ≡ us → Target q 1 → m ≡ (memory stores g).put q d n → Changes us vs m
    Copies : (to from : Address) (k : ℕ) → vs ≡ us → Target to k → m ≡ (memory stores g).copy to from k n
        → Changes us vs m
    ReadsItem : (q : Address) (d : Cell) (k : ℕ) → vs ≡ us → Target q 1 → IsMember 0 (stored_by g.code a o ss)
        → m ≡ (memory stores g).put q d ((memory stores g).advance k n) → Changes us vs m
    Skips : (k : ℕ) → vs ≡ us → IsMember 0 (stored_by g.code a o ss)
        → m ≡ (memory stores g).advance k n → Changes us vs m
    Prints : (t : List ℕ) → vs ≡ us → IsMember 1 (stored_by g.code a o ss)
        → m ≡ with_store stores n (stores.appended n.store t) → Changes us vs m
    MakesOwn : (q : Address) (k : ℕ) → vs ≡ us → Target q k → m ≡ (memory stores g).make_own q n → Changes us vs m
    Calls : (b up : ℕ) (l : Layout) (es : List Entry) → vs ≡ Body b ∷ us → o ≡ Some (i.Call b up)
        → layout_of g.code.layouts b ≡ Some l
        → Pairs g.code.layouts n.frames (lowest_first (length l.formals) ss []) es
        → fit_formals l.formals (lowest_first (length l.formals) ss []) ≡ true
        → nat_lt n.depth g.limits.depth ≡ true → m ≡ memory_after_call stores g l up es n → Changes us vs m
    Returns : us ≡ a ∷ vs → o ≡ Some i.Return → m ≡ (memory stores g).close_frame n → Changes us vs m

  -- an instruction lacks nothing; where the process goes on it stands, and its memory changed so
  abbrev pub Well : List Area → StepResult (Memory S) → Type 0
  Well us (Goes (At q st m)) = (s : ProcessAt g.code q st m.frames) × Changes us (areas s) m
  Well us (Stops Ends (At q st m)) = (k : StoppedAt g.code Ends q st m.frames) × (m ≡ n)
      × (k.area ∷ areas_of k.callers ≡ us)
  Well us (Stops x (At q st m)) = (k : StoppedAt g.code x q st m.frames) × (s : ProcessAt g.code q st m.frames)
      × Changes us (areas s) m × IsHere stores g m x (k.area ∷ areas_of k.callers) (areas s)
  Well us (Fails f) = Unit {0}
  Well us Stuck = ⊥
