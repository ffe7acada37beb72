-- None of this belongs to what the program promises: it is for contracts between crates.
-- A process at a fork, a child of a parallel statement or of a forall there, and where this child begins.
use Rattle.std.specs.Prelude.{◌≡◌, ℕ, suc, ◌+◌, ◌≤◌, ℤ, pos, ◌+ℤ◌, List, [], ◌∷◌, length, Option, Some, None, true}
use Rattle.std.specs.Prelude.{slice_get}
use Rattle.sp_tree.specs.TreeShape.{IsFormedUse}
use Rattle.sp_tree.specs.Plain.{Expr, Stmt, Stmts, Parallel, Forall}
use Rattle.sp_tree.specs.Uses.{Use, In_stmt}
use Rattle.sp_cell.specs.declared.spot.Handing.{Handing}
use Rattle.sp_cell.specs.Map.{Plain}
use Rattle.sp_meaning.specs.LocalWork.{LocalState, Identity, Item}
use Rattle.sp_meaning.specs.Actions.{Birth, push}
use Rattle.sp_meaning.specs.Run.{Store}
use Rattle.sp_code.specs.declared.code.ChildTable.{ChildTable}
use Rattle.sp_code.specs.declared.instr.Instr.TheVariants as i
use Rattle.sp_code.specs.TreeCode.{child_table}
use Rattle.sp_code.specs.Machine.{Entry, At}
use Rattle.sp_code.specs.Memory.{Memory}
use Rattle.sp_code.specs.Places.{after_statement}
use Rattle.sp_code.specs.PlainStore.{plain}
use Rattle.sp_code.specs.NeverStops.{NeverStops}
use Rattle.sp_code.specs.Scopes.{Scope, OfIndex}
use Rattle.sp_code.specs.Shares.{SetsAre}
use Rattle.sp_code.specs.CodeOfTree.{StatementAt, CodeAt, HasFork, HasWords}
use Rattle.sp_code.specs.System.{child_process, handing_of}
use Rattle.sp_codegen.specs.CompiledRuns.{CompiledRun, code, machine_run, Matches}
use Rattle.sp_codegen.specs.FramePairs.{FramePair, sources}
use Rattle.sp_codegen.specs.ProcessInfos.{ProcessInfo, IsProcessInfo, IsPlaced, IsAboutToBegin, child_info}
use Rattle.sp_codegen.specs.ProcessInfos.{own_at_birth, HasHanded, index_frame_of}
use Rattle.sp_codegen.specs.Parents.{ChildIs}

-- a process that stands at a fork and may have children: value is the index of the first of a forall
pub record ForkPoint (r : CompiledRun) : Type 0 where
  pub parent : ProcessInfo
  pub frames : List FramePair
  pub scopes : List Scope
  pub own : LocalState
  pub store : Store
  pub memory : Memory Plain
  pub place : ℕ
  pub stack : List Entry
  pub value : ℤ
  pub is_process : IsProcessInfo parent
  pub sets : SetsAre r.input.program r.moves r.shares
  pub stands : Matches r parent frames own store memory
  pub shallow : own.depth + 1 ≤ r.input.limits.depth

-- a child by its name and numbers: that of the process, and which one of the fork it is
pub record Child (r : CompiledRun) (f : ForkPoint r) : Type 0 where
  pub identity : Identity
  pub number : ℕ
  pub nth : ℕ
  pub longer : suc (length f.parent.who.name) ≤ length identity.name
  pub named : slice_get f.parent.processes number ≡ Some identity.name

-- where a child begins: its frames and scopes, its statement with its place in the code and its index, what it has to
-- do, and its own part
pub record Start : Type 0 where
  pub frames : List FramePair
  pub scopes : List Scope
  pub statement : Stmt
  pub entry : ℕ
  pub index : Option ℕ
  pub todo : List Item
  pub own : LocalState

module _ (r : CompiledRun) (f : ForkPoint r) where
  abbrev pub table_at : (entry : ℕ) → (index : Option ℕ) → Stmt → ChildTable
  table_at entry index st = child_table r.input.program r.moves r.shares entry index st

  -- what the fork hands to its child
  abbrev pub handing_at : (nth : ℕ) → ChildTable → Handing
  handing_at nth table = handing_of (code r).layouts f.memory.frames f.value nth table

  abbrev pub info_at : Child r f → Start → ProcessInfo
  info_at c t = child_info f.parent c.identity f.frames t.scopes t.frames t.statement f.own.depth
      (handing_at c.nth (table_at t.entry t.index t.statement))

  -- the child is a process, and stands at the beginning of its statement's code
  abbrev pub BeginsAt : Child r f → Start → Type 0
  BeginsAt c t = IsProcessInfo (info_at c t)
      × IsAboutToBegin r.input r.moves r.shares r.pause (info_at c t) t.frames t.todo t.own f.store
      (child_process plain (machine_run r) (At f.place f.stack f.memory) f.value c.number c.nth
      (table_at t.entry t.index t.statement))

  -- a child of a parallel statement whose first child begins at that place
  pub record ParallelChild : Type 0 where
    pub child : Child r f
    pub statements : Stmts
    pub first : ℕ
    pub birth : Birth
    pub placed : IsPlaced r.input r.moves r.shares r.pause f.parent f.scopes f.frames (In_stmt (Parallel statements))
    pub formed : (u : Use) → In_stmt (Parallel statements) u → IsFormedUse r.input.program u
    pub body : ChildIs r.input.program r.moves r.shares (code r) (NeverStops r.input.program) true f.scopes statements
        first child.nth birth
    pub handed : HasHanded f.memory (handing_at child.nth (table_at body.entry None body.statement))

  abbrev pub parallel_start : ParallelChild → Start
  parallel_start z = record {
    frames = f.frames;
    scopes = f.scopes;
    statement = z.body.statement;
    entry = z.body.entry;
    index = None;
    todo = z.birth.todo;
    own = own_at_birth f.own.frames f.own.depth;
  }

  -- a child of a forall
  pub record IndexedChild : Type 0 where
    pub child : Child r f
    pub index : ℕ
    pub from : Expr
    pub to : Expr
    pub statement : Stmt
    pub entry : ℕ
    pub placed : IsPlaced r.input r.moves r.shares r.pause f.parent f.scopes f.frames
        (In_stmt (Forall index from to statement))
    pub formed : (u : Use) → In_stmt statement u → IsFormedUse r.input.program u
    pub body : StatementAt r.input.program r.moves r.shares (CodeAt (code r)) (HasFork (code r)) (HasWords (code r))
        (NeverStops r.input.program) true (OfIndex index ∷ f.scopes) entry statement
    pub end : slice_get (code r).instrs (after_statement r.input.program entry statement) ≡ Some i.End
    pub handed : HasHanded f.memory (handing_at child.nth (table_at entry (Some index) statement))

  -- below the frame of its index
  abbrev pub indexed_start : IndexedChild → FramePair → Start
  indexed_start z j = record {
    frames = j ∷ f.frames;
    scopes = OfIndex z.index ∷ f.scopes;
    statement = z.statement;
    entry = z.entry;
    index = Some z.index;
    todo = push z.statement [];
    own = own_at_birth (sources (j ∷ f.frames)) f.own.depth;
  }

  -- this frame holds its index
  abbrev pub HoldsIndex : IndexedChild → FramePair → Type 0
  HoldsIndex z j = j.source ≡ index_frame_of z.child.identity.name f.frames z.index (f.value +ℤ pos z.child.nth)
