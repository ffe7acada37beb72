-- None of this belongs to what the program promises: it is for contracts between crates.
-- A process as `where` shows it, beside the same process of the meaning: what the law of this crate says.
use Rattle.std.specs.Prelude.{◌≡◌, ◌⊎◌, ℕ, ◌+◌, ℤ, List, [], ◌∷◌, ◌++◌, Option, Some, None, Bool, true, false}
use Rattle.std.specs.Prelude.{length, slice_get}
use Rattle.sp_base.specs.declared.fault.Fault.{Fault}
use Rattle.sp_base.specs.declared.limits.Limits.{Limits}
use Rattle.sp_tree.specs.declared.checked.Role.{Role}
use Rattle.sp_tree.specs.declared.checked.Role.TheVariants as role
use Rattle.sp_tree.specs.declared.checked.Variable.{Variable}
use Rattle.sp_tree.specs.Bare.{variable_of, without_places}
use Rattle.sp_tree.specs.Plain.{Repeat, Stmt}
use Rattle.sp_tree.specs.Plain as bare
use Rattle.sp_tree.specs.PlainChecked.{Program}
use Rattle.sp_tree.specs.Sets.{IsUsed}
use Rattle.sp_tree.specs.Uses.{Use, In_stmt, In_loop}
use Rattle.sp_journal.specs.Births.{births}
use Rattle.sp_journal.specs.declared.entry.Entry.{Entry as JournalEntry}
use Rattle.sp_cell.specs.Map.{Plain}
use Rattle.sp_code.specs.declared.code.Formal.{Formal}
use Rattle.sp_code.specs.declared.code.Layout.{Layout}
use Rattle.sp_code.specs.TreeCode.{program_code}
use Rattle.sp_code.specs.Machine.{At, Config, Entry, layout_of}
use Rattle.sp_code.specs.Memory.{CodeRun, Memory, memory as memory_of}
use Rattle.sp_code.specs.Memory as machine
use Rattle.sp_code.specs.PlainStore.{plain}
use Rattle.sp_code.specs.System.{Condition, Absent, Working, Waits, Joins}
use Rattle.sp_code.specs.Turns.{Faulted, IsTurn, frames_fit}
use Rattle.sp_codegen.specs.TurnAgrees.{due_after}
use Rattle.sp_lines.specs.declared.mark.Mark.{Mark}
use Rattle.sp_meaning.proofs.Rights.{OwnLocation}
use Rattle.sp_meaning.specs.Eval.{in_frame}
use Rattle.sp_meaning.specs.LocalWork.{Again, Address, Break, Do, First, Frame, Item, Leave, Loc, OfBlock, OfIndex}
use Rattle.sp_meaning.specs.LocalWork.{EndsInFault, LocalState, LocationContent, Process, RunInput, Test}
use Rattle.sp_meaning.specs.LocalWork.{reference_target, value_in}
use Rattle.sp_meaning.specs.Model as meaning
use Rattle.sp_meaning.specs.Model.{Payload, Message, Name, Takes}
use Rattle.sp_meaning.specs.Rights.{frames_below, location_of}
use Rattle.sp_meaning.specs.Run.{Store, run}
use Rattle.sp_meaning.specs.Turn.{turn}
use Rattle.sp_meaning.specs.Values.{get_at}
use Rattle.sp_where.specs.StateVariables.{Known, address_by, first_variable, variable_line}
use Rattle.sp_where.specs.Lines.{Says, line_with}

-- the run of the program of a tree
abbrev pub run_of : Program → (input : List ℕ) → Limits → RunInput
run_of tree input limits = record { program = without_places tree; input = input; limits = limits }

-- what `where` knows beside the state: of the tree with its code, and of a journal
abbrev pub known_of : Program → (moves shares : Stmt → List ℕ) → List JournalEntry → (constants : List (List (List ℕ)))
    → List Mark → Known
known_of tree moves shares es constants marks = record {
  tree = tree;
  constants = constants;
  marks = marks;
  code = program_code (without_places tree) moves shares;
  births = births es;
}

-- ---- processes

-- a process of the machine with this memory: one that runs and whose variables fit, one that waits, or one that joins
abbrev pub HasMemory : CodeRun → Condition Plain → (joins : Bool) → Memory Plain → Type 0
HasMemory g (Working (At pc stack n)) joins m = (joins ≡ false) × (n ≡ m)
    × (frames_fit (memory_of plain g) g.code (At pc stack n) ≡ true)
HasMemory g (Waits stop (At pc stack n)) joins m = (joins ≡ false) × (n ≡ m)
HasMemory g (Joins left (At pc stack n)) joins m = (joins ≡ true) × (n ≡ m)
HasMemory _ _ _ _ = ⊥

-- what a process of the meaning does
abbrev pub Situation : Type 0
Situation = meaning.Condition Process LocationContent Address

-- the process that does it, if it has not ended
abbrev pub process_in : Situation → Option Process
process_in meaning.Absent = None
process_in (meaning.Works o) = Some o
process_in (meaning.Waits offer) = Some offer.next
process_in (meaning.Joins fork count o) = Some o
process_in meaning.Ended = None

-- ---- what a process may read

-- what an offer takes goes there
abbrev pub GoesTo : Payload LocationContent Address → Loc → Type 0
GoesTo (Message v) l = ⊥
GoesTo (Takes a) l = a.spot ≡ l

-- a process in this condition waits for what will go there
abbrev pub IsWaitedFor : Situation → Loc → Type 0
IsWaitedFor (meaning.Waits offer) l = GoesTo offer.payload l
IsWaitedFor _ _ = ⊥

module _ (p : bare.Program) where
  -- what has these uses uses the variable that stands there
  abbrev pub UsesThere : List Frame → (Use → Type 0) → Loc → Type 0
  UsesThere fs Here l = (x : ℕ) × IsUsed p Here x × (location_of p fs x ≡ Some l)

  -- so does something that is left to do, in the frames in which it will be done
  abbrev pub IsLeftToUse : List Frame → List Item → Loc → Type 0
  IsLeftToUse fs [] l = ⊥
  IsLeftToUse fs (Do s ∷ todo) l = UsesThere fs (In_stmt s) l ⊎ IsLeftToUse fs todo l
  IsLeftToUse fs (First x low high down s ∷ todo) l = UsesThere fs (In_loop x s) l ⊎ IsLeftToUse fs todo l
  IsLeftToUse fs (Again x limit down s ∷ todo) l = UsesThere fs (In_loop x s) l ⊎ IsLeftToUse fs todo l
  IsLeftToUse fs (Test s e ∷ todo) l = UsesThere fs (In_stmt (Repeat s e)) l ⊎ IsLeftToUse fs todo l
  IsLeftToUse fs (Leave ∷ todo) l = IsLeftToUse (frames_below fs) todo l
  IsLeftToUse fs (Break f ∷ todo) l = IsLeftToUse fs todo l

  -- a variable of the process itself, one that it has still to use, or one that it waits for a value for
  abbrev pub MayRead : Name → Situation → Process → Loc → Type 0
  MayRead q c pr l = OwnLocation q l ⊎ (IsLeftToUse pr.own.frames pr.todo l ⊎ IsWaitedFor c l)

-- ---- variables

-- where a variable of a frame stands in the meaning: a variable parameter is what it stands for
abbrev pub place_by : RunInput → Frame → ℕ → bare.Variable → Role → Option Address
place_by g o x v role.Reference = reference_target x o.references
place_by g o x v _ = Some (in_frame g x v o)

abbrev pub place_in : RunInput → Frame → ℕ → bare.Variable → Option Address
place_in g o x v = place_by g o x v v.role

module _ (w : Known) (g : RunInput) (may : Loc → Type 0) (s : Store) (m : Plain) (joins : Bool) where
  -- Variable x of the tree, which is number k of a frame. fs: the parameters of its block. It stands somewhere in the
  -- meaning, and, if the process may read it, its line says what value it has there.
  pub record VariableStands (o : Frame) (f : machine.Frame) (fs : List Formal) (k x : ℕ) : Type 0 where
    pub variable : Variable
    pub known : slice_get w.tree.variables x ≡ Some variable
    pub place : Address
    pub place_is : place_in g o x (variable_of variable) ≡ Some place
    pub says : may place.spot
        → Says w variable (get_at place.path (value_in (s place.spot))) joins
        (variable_line w m x (address_by f k (slice_get fs k)))

  -- A frame of the machine, beside one of the meaning: both are of the same process and for the same, and each variable
  -- of the block stands.
  pub record FrameStands (o : Frame) (f : machine.Frame) : Type 0 where
    pub owner : o.owner ≡ w.births.name f.owner
    pub block : (b : ℕ) → f.home ≡ machine.OfBlock b → o.home ≡ OfBlock b
    pub index : (x : ℕ) → f.home ≡ machine.OfIndex x → (n : ℤ) × (o.home ≡ OfIndex x n)
    pub variables : (b : ℕ) (l : Layout) → f.home ≡ machine.OfBlock b → layout_of w.code.layouts b ≡ Some l
        → (k x : ℕ) → slice_get l.variables k ≡ Some x
        → VariableStands o f l.formals (first_variable f.home + k) x

-- the frames of a memory of the machine, beside these of the meaning: there are as many, and each of them stands
pub record FramesAgree (w : Known) (g : RunInput) (may : Loc → Type 0) (os : List Frame) (s : Store) (n : Memory Plain)
    (joins : Bool) : Type 0 where
  pub as_many : length n.frames ≡ length os
  pub frames : (h : ℕ) (f : machine.Frame) → slice_get n.frames h ≡ Some f
      → (o : Frame) × (slice_get os h ≡ Some o) × FrameStands w g may s n.store joins o f

-- A process of the machine, with its memory, beside what the process q of the meaning does: this one has not ended,
-- and its frames are those of the memory.
pub record ProcessStands (w : Known) (g : RunInput) (q : Name) (c : Situation) (s : Store) (n : Memory Plain)
    (joins : Bool) : Type 0 where
  pub process : Process
  pub process_is : process_in c ≡ Some process
  pub agree : FramesAgree w g (MayRead g.program q c process) process.own.frames s n joins

-- ---- whole frames

module _ (w : Known) (g : RunInput) (s : Store) (o : Frame) where
  -- the line of a variable, if it stands here in the meaning
  abbrev pub line_at : Variable → Option Address → List ℕ
  line_at v None = []
  line_at v (Some a) = line_with w v (get_at a.path (value_in (s a.spot)))

  -- the line of variable x of the tree, if it is this one
  abbrev pub line_of : ℕ → Option Variable → List ℕ
  line_of x None = []
  line_of x (Some v) = line_at v (place_in g o x (variable_of v))

  -- the lines of the variables of a frame of the meaning
  abbrev pub lines_of : List ℕ → List ℕ
  lines_of [] = []
  lines_of (x ∷ xs) = line_of x (slice_get w.tree.variables x) ++ lines_of xs

  -- each of them may be read
  abbrev pub AreRead : (Loc → Type 0) → List ℕ → Type 0
  AreRead may [] = Unit {0}
  AreRead may (x ∷ xs) = ((v : Variable) (a : Address) → slice_get w.tree.variables x ≡ Some v
      → place_in g o x (variable_of v) ≡ Some a → may a.spot) × AreRead may xs

-- ---- a turn that ends in a fault

-- The machine's turn of process q from d on ends in this fault, and the frames of its memory there, those of functions
-- that an expression calls among them, are those of the meaning, where this is the store.
pub record FaultStands (w : Known) (g : RunInput) (h : CodeRun) (q : Name) (d : Config (Memory Plain)) (f : Fault)
    (r : Store) : Type 0 where
  pub pc : ℕ
  pub stack : List Entry
  pub memory : Memory Plain
  pub ends : IsTurn (memory_of plain h) h.code d (Faulted f (At pc stack memory))
  pub own : LocalState
  pub agree : FramesAgree w g (OwnLocation q) own.frames r memory false

-- where the turn of a process ends in a fault in the meaning, it does so in the machine; since: the ticks that the
-- process had made at its last entry
pub record FaultsStand (w : Known) (g : RunInput) (h : CodeRun) (q : Name) (c : Situation) (s : Store)
    (d : Config (Memory Plain)) : Type 0 where
  pub process : Process
  pub process_is : process_in c ≡ Some process
  pub since : ℕ
  pub faults : (k : ℕ) (f : Fault) (r : Store)
      → run (turn g (due_after since h.pause) k process.todo) process.who process.own s ≡ (EndsInFault f, r)
      → FaultStands w g h q d f r
