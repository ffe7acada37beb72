-- None of this belongs to what the program promises: it is for contracts between crates.
-- What the laws of turns, forks and joins are said of: a run whose code is that of a tree, and a process of it that
-- stands, or is about to take a turn.
use Rattle.std.specs.Prelude.{ℕ, List}
use Rattle.sp_tree.specs.Plain.{Stmt}
use Rattle.sp_cell.specs.Map.{Map, Plain}
use Rattle.sp_cell.specs.declared.spot.Spot.{Spot}
use Rattle.sp_meaning.specs.LocalWork.{RunInput, Loc, LocalState, Item, WorkOutcome}
use Rattle.sp_meaning.specs.Run.{Store, run}
use Rattle.sp_meaning.specs.Turn as source
use Rattle.sp_code.specs.declared.code.Parts.{Parts}
use Rattle.sp_code.specs.TreeCode.{program_code}
use Rattle.sp_code.specs.Machine.{Entry, Config, At}
use Rattle.sp_code.specs.Memory.{Memory}
use Rattle.sp_code.specs.Memory as m
use Rattle.sp_code.specs.Turns.{IsSafe}
use Rattle.sp_codegen.specs.CodePositions.{Turned}
use Rattle.sp_codegen.specs.FramePairs.{FramePair}
use Rattle.sp_codegen.specs.ProcessInfos.{IsCompilable, ProcessInfo, IsReadable, MemoryMatches, Laws, execution_of}
use Rattle.sp_codegen.specs.ProcessInfos.{IsAt, code_of, due_of, operations_of}
use Rattle.sp_codegen.specs.Parents.{JoiningStands}
use Rattle.sp_codegen.specs.TurnAgrees.{code_run}

-- a run: its program with input and limits, what each process statement may change and what it only reads, and after
-- how many ticks a process is due to pause
pub record CompiledRun : Type 0 where
  pub input : RunInput
  pub moves : Stmt → List ℕ
  pub shares : Stmt → List ℕ
  pub pause : ℕ
  pub compilable : IsCompilable input.program moves shares

-- its code, and the machine's run of it
abbrev pub code : CompiledRun → Parts
code r = program_code r.input.program r.moves r.shares

abbrev pub machine_run : CompiledRun → m.CodeRun
machine_run r = code_run r.input (code r) r.pause

-- the memory of a process stands for its own part and what it holds of the store
abbrev pub Matches : CompiledRun → ProcessInfo → List FramePair → LocalState → Store → Memory Plain → Type 0
Matches r life js o s n = MemoryMatches r.input r.moves r.shares r.pause life js o s n

-- what the process may read
abbrev pub Reads : CompiledRun → ProcessInfo → Loc → Type 0
Reads r life l = IsReadable r.input r.moves r.shares r.pause life l

-- a process that joins its children, with the map that it has now: it stands but for the spots that are away
abbrev pub Joins : CompiledRun → ProcessInfo → (Spot → Type 0) → List FramePair → LocalState → Store → Memory Plain
    → Map → Type 0
Joins r life away js o s n mp = JoiningStands r.input r.moves r.shares r.pause life away js o s n mp

-- a process about to take a turn: it stands, and from its place on its code is that of what it has left to do
pub record TurnPoint (r : CompiledRun) : Type 0 where
  pub life : ProcessInfo
  pub laws : Laws r.input r.moves r.shares r.pause life
  pub end : ℕ
  pub base : List Entry
  pub below : List FramePair
  pub frames : List FramePair
  pub todo : List Item
  pub place : ℕ
  pub stack : List Entry
  pub own : LocalState
  pub store : Store
  pub memory : Memory Plain
  pub stands : IsAt r.input r.moves r.shares r.pause life laws end base below frames todo place stack own store memory

-- where the machine is, and how the meaning's turn ends when it is allowed so many steps
abbrev pub configuration : {r : CompiledRun} → TurnPoint r → Config (Memory Plain)
configuration t = At t.place t.stack t.memory

abbrev pub source_turn : {r : CompiledRun} → TurnPoint r → ℕ → WorkOutcome source.Stop × Store
source_turn {r} t steps =
    run (source.turn r.input (due_of r.input r.moves r.shares r.pause t.life) steps t.todo) t.life.who t.own t.store

-- the code's turn ends as this one
abbrev pub TurnsSo : {r : CompiledRun} → TurnPoint r → WorkOutcome source.Stop × Store → Type 0
TurnsSo {r} t end = Turned (execution_of r.input r.moves r.shares r.pause t.life t.laws) (configuration t) t.end t.base
    t.below end

-- no instruction of the code's turn lacks what it needs
abbrev pub TurnsSafely : {r : CompiledRun} → TurnPoint r → Type 0
TurnsSafely {r} t = IsSafe (operations_of r.input r.moves r.shares r.pause t.life)
    (code_of r.input r.moves r.shares r.pause t.life) (configuration t)
