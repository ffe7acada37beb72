-- None of this belongs to what the program promises: it is for contracts between crates.
-- A process in memory as the definitions see it, and what one instruction and one turn of it do. Each instruction's
-- contract here is `StepMatches` of the definition's instruction, and the kernel and the runner cite the turn.
use Rattle.std.specs.Prelude.{◌≡◌, ◌≢◌, ℕ, ◌+◌, ◌≤◌, ℤ, pos, ◌+ℤ◌, ◌≤ℤ◌, List, Option, Some, None, Bool, not}
use Rattle.std.specs.Prelude.{true, false, if◌then◌else◌, ◌⊎◌, slice_get, IfSome}
use Rattle.sp_base.specs.declared.fault.Fault.{Fault}
use Rattle.sp_base.specs.declared.limits.Limits.{Limits}
use Rattle.sp_cell.specs.declared.spot.Address.{Address}
use Rattle.sp_cell.specs.Map.{Plain}
use Rattle.sp_code.specs.declared.code.Parts.{Parts}
use Rattle.sp_code.specs.declared.instr.Instr.{Instr}
use Rattle.sp_code.specs.declared.instr.Instr.TheVariants as instr
use Rattle.sp_code.specs.Machine as m
pub use Rattle.sp_code.specs.Formals.{HasRoom, BeginsWithFormals, HaveFormals}
use Rattle.sp_code.specs.Turns.{Turn, Stopped, Faulted, IsTurn, IsSafe}
use Rattle.sp_code.specs.Memory.{Memory, memory, first_process, CodeRun}
use Rattle.sp_code.specs.PlainStore.{plain}
use Rattle.sp_code.specs.Ranks.{IsRankedAlong}
use Rattle.sp_code.specs.Sound.{run_of}
use Rattle.sp_machine.specs.declared.state.State.{State}
use Rattle.sp_machine.specs.declared.state.Stop.{Stop}
use Rattle.sp_machine.specs.declared.state.Stop.TheVariants as stop
use Rattle.sp_machine.specs.declared.state.Outcome.{Outcome}
use Rattle.sp_machine.specs.declared.state.Outcome.TheVariants as outcome
use Rattle.sp_machine.specs.StackEntries.{entries_of}

-- the memory of the machine's definition
abbrev pub memory_of : State → Memory Plain
memory_of p = record {
  process = p.number;
  frames = p.frames;
  depth = p.depth;
  ticks = p.ticks;
  since = p.since;
  cells = p.cells;
  store = p.store;
}

-- the process at its next instruction
abbrev pub config_of : State → m.Config (Memory Plain)
config_of p = m.At p.pc (entries_of p.stack) (memory_of p)

-- the run that it belongs to
abbrev pub code_run_of : State → Parts → Limits → CodeRun
code_run_of p code lim = run_of code p.input.value lim

-- the first process of a run; limits make no difference to it
abbrev pub start_of : Parts → List ℕ → m.Config (Memory Plain)
start_of code input = first_process plain (run_of code input
    (record { ticks = 0; depth = 0; cells = 0; processes = 0; channels = 0; entries = 0; output = 0 }))

-- what waits for an answer goes there
abbrev pub target_of : State → Address
target_of p = p.target

-- ---- one instruction

-- this instruction of a process
abbrev pub does : Option Instr → State → Parts → Limits → m.StepResult (Memory Plain)
does o p code lim = m.instruction (memory plain (code_run_of p code lim)) code o p.pc (entries_of p.stack) (memory_of p)

-- the next instruction of a process
abbrev pub next_of : State → Parts → Limits → m.StepResult (Memory Plain)
next_of p code lim = does (slice_get code.instrs p.pc) p code lim

-- whether the two last operands are equal, or whether they differ, is told, and the process goes on behind it
abbrev pub equality_step : Bool → State → Parts → Limits → m.StepResult (Memory Plain)
equality_step different p code lim = m.on_equals (entries_of p.stack)
    (λ b st. m.truth_step (memory plain (code_run_of p code lim)) code (if different then not b else b) (p.pc + 1) st
    (memory_of p))

-- whether nothing is left of the line, or of the input
abbrev pub over_step : (line : Bool) → State → Parts → Limits → m.StepResult (Memory Plain)
over_step false p code lim = does (Some instr.Eof) p code lim
over_step true p code lim = does (Some instr.Eoln) p code lim

-- the process keeps its number and its input
abbrev pub KeepsNumberAndInput : State → State → Type 0
KeepsNumberAndInput p q = (q.number ≡ p.number) × (q.input ≡ p.input)

-- a process that stopped at a fork keeps its table and its first value; its children's depth and their values are no
-- larger than the machine's numbers
abbrev pub IsAtFork : State → ℕ → ℤ → ℕ → Type 0
IsAtFork q table value count = (q.table ≡ table)
    × ((q.first ≡ value) × ((q.depth + 1 ≤ 4294967295) × ((value +ℤ pos count) ≤ℤ pos 9223372036854775808)))

-- a process that stopped so is at this stop of the definition
abbrev pub StopIs : Stop → State → m.Stop → Type 0
StopIs (stop.Fork t v n) q s = (s ≡ m.Forks t v n) × IsAtFork q t v n
StopIs stop.Open q s = s ≡ m.Opens q.target
StopIs (stop.Send c k cs) q s = s ≡ m.Sends c k cs
StopIs (stop.Receive c k) q s = s ≡ m.Receives c k q.target
StopIs stop.End q s = s ≡ m.Ends
StopIs stop.Pause q s = s ≡ m.Pauses
StopIs (stop.Fault f) q s = ⊥
StopIs stop.Memory q s = ⊥

-- a process that stopped so met this fault
abbrev pub FaultIs : Stop → Fault → Type 0
FaultIs (stop.Fault g) f = g ≡ f
FaultIs _ _ = ⊥

-- what came of an instruction: the process goes on, it stopped, or it met a fault
abbrev pub StepMatches : m.StepResult (Memory Plain) → State → State → Option Stop → Type 0
StepMatches (m.Goes d) p q None = config_of q ≡ d
StepMatches (m.Goes d) p q (Some s) = ⊥
StepMatches (m.Stops t d) p q None = ⊥
StepMatches (m.Stops t d) p q (Some s) = StopIs s q t × (config_of q ≡ d)
StepMatches (m.Fails f) p q None = ⊥
StepMatches (m.Fails f) p q (Some s) = FaultIs s f × (config_of q ≡ config_of p)
StepMatches m.Stuck p q s = Unit {0}

-- what an outcome tells, unless it is want of memory: the process goes on, or why it stopped; what a stop holds besides
-- is in its state
abbrev pub told_by : State → Outcome → Option (Option Stop)
told_by q outcome.On = Some None
told_by q outcome.Pause = Some (Some stop.Pause)
told_by q (outcome.Fault f) = Some (Some (stop.Fault f))
told_by q outcome.Stop = Some (Some q.stopped)
told_by q outcome.Refused = None

-- so told by an outcome; of an instruction that was refused memory nothing is said
abbrev pub CameBy : m.StepResult (Memory Plain) → State → State → Outcome → Type 0
CameBy o p q r = IfSome (told_by q r) (λ s. StepMatches o p q s)

-- the instruction that a process would find at another place
abbrev pub step_at_config : State → Parts → Limits → m.Config (Memory Plain) → m.StepResult (Memory Plain)
step_at_config p code lim d = m.next_step (memory plain (code_run_of p code lim)) code d

-- the instruction behind the next one lacks nothing either
abbrev pub IsSafeThen : State → Parts → Limits → Type 0
IsSafeThen p code lim = (d : m.Config (Memory Plain)) → next_of p code lim ≡ m.Goes d
    → step_at_config p code lim d ≢ m.Stuck

-- the process went on by two instructions
abbrev pub WentTwice : State → Parts → Limits → State → Type 0
WentTwice p code lim q = (d : m.Config (Memory Plain))
    × ((next_of p code lim ≡ m.Goes d) × (step_at_config p code lim d ≡ m.Goes (config_of q)))

-- so came of the next instruction, or the process went on by two
abbrev pub Proceeded : State → Parts → Limits → State → Outcome → Type 0
Proceeded p code lim q r = CameBy (next_of p code lim) p q r ⊎ ((r ≡ outcome.On) × WentTwice p code lim q)

-- ---- a turn

-- the turn that a process made which stopped so
abbrev pub turn_by : Stop → State → Turn (Memory Plain)
turn_by (stop.Fork t v n) q = Stopped (m.Forks t v n) (config_of q)
turn_by stop.Open q = Stopped (m.Opens q.target) (config_of q)
turn_by (stop.Send c k cs) q = Stopped (m.Sends c k cs) (config_of q)
turn_by (stop.Receive c k) q = Stopped (m.Receives c k q.target) (config_of q)
turn_by stop.End q = Stopped m.Ends (config_of q)
turn_by stop.Pause q = Stopped m.Pauses (config_of q)
turn_by (stop.Fault f) q = Faulted f (config_of q)
turn_by stop.Memory q = Stopped m.Ends (config_of q)

-- what a process keeps for the children of a fork at which it stopped
abbrev pub KeepsFork : Stop → State → Type 0
KeepsFork (stop.Fork t v n) q = IsAtFork q t v n
KeepsFork _ _ = Unit {0}

-- no instruction of the turn lacks what it needs
abbrev pub CanTurn : State → Parts → Limits → Type 0
CanTurn p code lim = IsSafe (memory plain (code_run_of p code lim)) code (config_of p)

-- the ranks fall along all that the turn comes to, so it ends
abbrev pub IsRankedFrom : State → Parts → Limits → Type 0
IsRankedFrom p code lim = IsRankedAlong (memory plain (code_run_of p code lim)) code (config_of p)

-- the turn that the definition gives, with what a fork needs
abbrev pub IsTurnBy : State → Parts → Limits → State → Stop → Type 0
IsTurnBy p code lim q s = IsTurn (memory plain (code_run_of p code lim)) code (config_of p) (turn_by s q)
    × KeepsFork s q

-- the turn that was made; of one that memory ended nothing is said
abbrev pub IsTurnOf : State → Parts → Limits → State → Stop → Type 0
IsTurnOf p code lim q (stop.Fork t v n) = IsTurnBy p code lim q (stop.Fork t v n)
IsTurnOf p code lim q stop.Open = IsTurnBy p code lim q stop.Open
IsTurnOf p code lim q (stop.Send c k cs) = IsTurnBy p code lim q (stop.Send c k cs)
IsTurnOf p code lim q (stop.Receive c k) = IsTurnBy p code lim q (stop.Receive c k)
IsTurnOf p code lim q stop.End = IsTurnBy p code lim q stop.End
IsTurnOf p code lim q stop.Pause = IsTurnBy p code lim q stop.Pause
IsTurnOf p code lim q (stop.Fault f) = IsTurnBy p code lim q (stop.Fault f)
IsTurnOf p code lim q stop.Memory = Unit {0}
