-- None of this belongs to what the program promises: it is for contracts between crates.
-- How many instructions a turn of ranked code has, at most. The law that turns end promises it, from the ranks of the
-- code and the ticks that are left.
use Rattle.std.specs.Prelude.{◌≡◌, ℕ, suc, ◌+◌, ◌-◌, ◌*◌, ◌≤◌, List, [], ◌∷◌, length}
use Rattle.sp_cell.specs.declared.cell.Cell.{Cell}
use Rattle.sp_cell.specs.declared.spot.Address.{Address}
use Rattle.sp_code.specs.declared.instr.Instr.{Instr}
use Rattle.sp_code.specs.declared.code.Layout.{Layout}
use Rattle.sp_code.specs.Machine.{Entry, Number, Chan, Pointer, Cells, Link, Reply, Done, Ops, Config, At}
use Rattle.sp_code.specs.Memory.{CodeRun, Memory}
use Rattle.sp_code.specs.Turns.{TurnProgress, Ended, Lacks, GoesOn}
use Rattle.sp_code.specs.Ranks.{rank}

-- a memory has only so many ticks left: a tick and a call take one, and nothing gives one back
pub record HasBudget {M : Type 0} (ops : Ops M) (budget : M → ℕ) : Type 0 where
  pub tick : (n m : M) → ops.tick n ≡ Done m → budget m + 1 ≤ budget n
  pub open_frame : (l : Layout) (up : ℕ) (es : List Entry) (n m : M) → ops.open_frame l up es n ≡ Done m
      → budget m + 1 ≤ budget n
  pub put : (a : Address) (c : Cell) (n : M) → budget (ops.put a c n) ≤ budget n
  pub copy : (to from : Address) (k : ℕ) (n : M) → budget (ops.copy to from k n) ≤ budget n
  pub advance : (k : ℕ) (n : M) → budget (ops.advance k n) ≤ budget n
  pub print : (t : List ℕ) (n m : M) → ops.print t n ≡ Done m → budget m ≤ budget n
  pub close_frame : (n : M) → budget (ops.close_frame n) ≤ budget n

-- what is left on the way back through the calls
abbrev pub left_on_return : (ℕ → ℕ) → List Entry → ℕ
left_on_return f [] = 0
left_on_return f (Number v ∷ st) = left_on_return f st
left_on_return f (Chan c ∷ st) = left_on_return f st
left_on_return f (Pointer a ∷ st) = left_on_return f st
left_on_return f (Cells cs ∷ st) = left_on_return f st
left_on_return f (Link r ∷ st) = f r + 1 + left_on_return f st
left_on_return f (Reply r ∷ st) = f r + 1 + left_on_return f st

-- a number that falls with each instruction: a stretch of code for each tick that is left, and the way from here
abbrev pub left_by : {M : Type 0} → (List Instr) → (M → ℕ) → Config M → ℕ
left_by code budget (At pc st n) =
    (2 * length code + 5) * budget n + rank (suc (length code)) code pc + left_on_return
    (rank (suc (length code)) code) st

-- how many ticks a process may make yet
abbrev pub ticks_left : {S : Type 0} → CodeRun → Memory S → ℕ
ticks_left g n = g.limits.ticks - n.ticks

-- so many instructions a turn has, at most
abbrev pub most_steps : {S : Type 0} → CodeRun → Config (Memory S) → ℕ
most_steps g c = left_by g.code.instrs (ticks_left g) c

-- it has come to an end
abbrev pub IsOver : {M : Type 0} → TurnProgress M → Type 0
IsOver (Ended t) = Unit {0}
IsOver (Lacks c) = Unit {0}
IsOver (GoesOn c) = ⊥
