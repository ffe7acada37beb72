-- None of this belongs to what the program promises: it is for contracts between crates.
-- One process that runs the code of a tree: all that the simulation of its turns speaks of, and what it asks of it. The
-- simulation is proved over this record, and `ProcessInfos` gives one for each process of a run.
use Rattle.std.specs.Prelude.{◌≡◌, ℕ, List, Some, Bool, slice_get}
use Rattle.sp_tree.specs.TreeShape.{IsFormedUse}
use Rattle.sp_tree.specs.Plain.{Block, Stmt}
use Rattle.sp_tree.specs.Uses.{Use, In_stmt}
use Rattle.sp_tree.specs.Interference.{IsFreeOfInterference}
use Rattle.sp_meaning.specs.LocalWork.{RunInput, Loc, Cell, LocalState, Identity}
use Rattle.sp_code.specs.declared.code.Layout.{Layout}
use Rattle.sp_code.specs.declared.code.Parts.{Parts}
use Rattle.sp_code.specs.Machine.{Ops, layout_of}
use Rattle.sp_codegen.specs.Relation.{Relation, KeepsRelation}

-- a process, the code that it runs, and what the simulation needs to know of both
pub record Execution (M : Type 0) : Type 1 where
  -- the program with its input and limits, its code, and which variables each child of a fork takes over
  pub run_input : RunInput
  pub code : Parts
  pub moves : Stmt → List ℕ
  pub shares : Stmt → List ℕ
  -- the blocks that lead to no statement of the kernel
  pub IsCallableInFunctions : ℕ → Type 0
  -- the process, and when it is due to pause
  pub who : Identity
  pub due : LocalState → Bool
  -- what it may write and read, and the heights of the frames of indexes that it holds
  pub Writes : Loc → Type 0
  pub IsReadable : Loc → Type 0
  pub Indexes : ℕ → Type 0
  -- the memory of the machine, how it stands for that of the meaning, and that all operations keep this
  pub operations : Ops M
  pub relation : Relation M
  pub laws : KeepsRelation run_input who due Writes IsReadable Indexes operations relation
  pub reads_written : (l : Loc) → Writes l → IsReadable l
  pub free : IsFreeOfInterference run_input.program
  pub own_written : (n x : ℕ) → Writes (Cell who.name n x)
  pub uses_formed : (f : ℕ) (b : Block) → slice_get run_input.program.blocks f ≡ Some b → (u : Use) → In_stmt b.body u
      → IsFormedUse run_input.program u
  pub layouts_found : (f : ℕ) (l : Layout) → slice_get code.layouts f ≡ Some l → layout_of code.layouts f ≡ Some l
