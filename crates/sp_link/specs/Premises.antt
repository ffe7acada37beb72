-- None of this belongs to what the program promises: it is for contracts between crates.
-- What is asked of a program, of the sets of its forks and of the limits, so that its code runs as the program means.
-- The laws of this crate require it, and `sp_execute` shows it of every accepted text.
use Rattle.std.specs.Prelude.{◌≡◌, ℕ, List, Some, slice_get}
use Rattle.sp_tree.specs.declared.checked.Role.TheVariants as role
use Rattle.sp_tree.specs.TreeShape.{IsFormed}
use Rattle.sp_tree.specs.Interference.{IsFreeOfInterference, IsFunction, IsMember}
use Rattle.sp_tree.specs.Plain.{Stmt, Block, Variable}
use Rattle.sp_tree.specs.Sets.{ImplicitTarget}
use Rattle.sp_meaning.specs.LocalWork.{RunInput}
use Rattle.sp_cell.specs.Map.{Plain}
use Rattle.sp_journal.specs.declared.entry.Entry.{Entry}
use Rattle.sp_journal.specs.Births.{first_births, occurrences_from}
use Rattle.sp_meaning.specs.Runs.{StateOf}
use Rattle.sp_meaning.specs.Along.{IsAlong}
use Rattle.sp_code.specs.TreeCode.{program_code}
use Rattle.sp_code.specs.Memory as memory
use Rattle.sp_code.specs.PlainStore.{plain}
use Rattle.sp_code.specs.NeverStops.{NeverStops}
use Rattle.sp_code.specs.Shares.{SetsAre}
use Rattle.sp_code.specs.Sizes.{HasSmallTypes}
use Rattle.sp_code.specs.Sound.{AreLimits}
use Rattle.sp_code.specs.CodeOfTree.{IsSoundBlock}
use Rattle.sp_code.specs.System.{System, IsSystem}
use Rattle.sp_codegen.specs.TurnAgrees.{code_run}

-- moves, shares: what each child of a fork takes over, and what it shares
pub record IsReady (g : RunInput) (moves shares : Stmt → List ℕ) : Type 0 where
  pub main : Block
  pub first : slice_get g.program.blocks 0 ≡ Some main
  pub formed : IsFormed g.program
  pub small : HasSmallTypes g.program
  pub free : IsFreeOfInterference g.program
  -- a function changes nothing outside itself, and takes values alone
  pub pure : (f : ℕ) → IsFunction g.program f → (x : ℕ) → ImplicitTarget g.program f x → ⊥
  pub values : (f : ℕ) (b : Block) → slice_get g.program.blocks f ≡ Some b → IsFunction g.program f → (x : ℕ)
      → IsMember x b.formals → (v : Variable) → slice_get g.program.variables x ≡ Some v → v.role ≡ role.Reference → ⊥
  pub fine : (f q : ℕ) (b : Block) → slice_get g.program.blocks f ≡ Some b
      → IsSoundBlock g.program moves shares (NeverStops g.program) f q b
  pub sets : SetsAre g.program moves shares
  pub limits : AreLimits g.limits

-- a run of the code of a program, where a process pauses after so many ticks
abbrev pub run_by : RunInput → (moves shares : Stmt → List ℕ) → (pause : ℕ) → memory.CodeRun
run_by g moves shares pause = code_run g (program_code g.program moves shares) pause

-- after these entries the system of the code of a program that is ready is t, and the program has come to s by n steps
pub record AreAlong (g : RunInput) (moves shares : Stmt → List ℕ) (pause : ℕ) (es : List Entry) (t : System Plain)
    (n : ℕ) (s : StateOf g) : Type 0 where
  pub ready : IsReady g moves shares
  pub system : IsSystem plain (run_by g moves shares pause) es t
  pub program : IsAlong g pause (occurrences_from first_births es) n s
