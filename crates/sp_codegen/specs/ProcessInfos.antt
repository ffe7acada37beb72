-- None of this belongs to what the program promises: it is for contracts between crates.
-- A process of a run as data: its name, what its birth gave it, and the numbers of channels and processes. What it may
-- write and read follows from this; so the laws of its turns can be told of every process, memory and store. The
-- contracts of this crate speak of lives.
use Rattle.std.specs.Prelude.{◌≡◌, ◌⊎◌, ℕ, ℤ, suc, ◌+◌, ◌≤◌, ◌==◌, Bool, true, List, [], ◌∷◌, Some, IsSome, slice_get}
use Rattle.std.specs.Prelude.{length}
use Rattle.std.specs.FinMap as map
use Rattle.sp_cell.specs.declared.spot.Handing.{Handing}
use Rattle.sp_cell.specs.declared.spot.Spot.{Spot}
use Rattle.sp_cell.specs.Fork.{index_frame, moved_of}
use Rattle.sp_cell.specs.Map.{Plain}
use Rattle.sp_cell.specs.Spots.{In, NotIn}
use Rattle.sp_tree.specs.TreeShape.{IsFormed, IsFormedUse}
use Rattle.sp_tree.specs.Interference.{IsFreeOfInterference}
use Rattle.sp_tree.specs.Plain.{Program, Block, Stmt}
use Rattle.sp_tree.specs.Uses.{Use, In_stmt}
use Rattle.sp_tree.specs.Uses as use_of
use Rattle.sp_meaning.specs.Model.{Name, Channel, same_channel}
use Rattle.sp_meaning.specs.LocalWork.{RunInput, Loc, Cell, OfIndex as Home_of, Frame, LocalState, Identity, Item}
use Rattle.sp_meaning.specs.Rights.{Aimed, Used}
use Rattle.sp_meaning.specs.Run.{Store}
use Rattle.sp_meaning.proofs.Rights.{OwnLocation, OwnOrGiven}
use Rattle.sp_meaning.proofs.RuleKeepers.{First}
use Rattle.sp_code.specs.declared.code.Layout.{Layout}
use Rattle.sp_code.specs.declared.code.Parts.{Parts}
use Rattle.sp_code.specs.TreeCode.{program_code}
use Rattle.sp_code.specs.declared.instr.Instr.TheVariants as i
use Rattle.sp_code.specs.Machine.{Entry, Ops, Config, At, is_in_no_function, layout_of}
use Rattle.sp_code.specs.Memory.{Memory, memory}
use Rattle.sp_code.specs.PlainStore.{plain}
use Rattle.sp_code.specs.NeverStops.{NeverStops}
use Rattle.sp_code.specs.Scopes.{Scope, level, is_index}
use Rattle.sp_code.specs.Sizes.{HasSmallTypes}
use Rattle.sp_code.specs.CodeOfTree.{IsSoundBlock}
use Rattle.sp_codegen.specs.Executions.{Execution}
use Rattle.sp_codegen.specs.CodePositions.{CodeFollows}
use Rattle.sp_codegen.specs.FramePairs.{FramePair, sources, up_at}
use Rattle.sp_codegen.specs.TurnAgrees.{code_run, due_after}
use Rattle.sp_codegen.specs.Relation.{Relation, KeepsRelation, Placed}
use Rattle.sp_codegen.specs.MemoryRelation.{Agrees, relation}

-- a tree that the code of a program may be made of
pub record IsCompilable (p : Program) (moves shares : Stmt → List ℕ) : Type 0 where
  pub formed : IsFormed p
  pub small : HasSmallTypes p
  pub free : IsFreeOfInterference p
  pub fine : (f q : ℕ) (b : Block) → slice_get p.blocks f ≡ Some b → IsSoundBlock p moves shares (NeverStops p) f q b

-- what a process has beside its own: the first one the input and the output, a child what its statement has to do with
-- in the frames of its parent. scopes, frames: those in which it begins
pub data Inheritance : Type 0 where
  Consoles : Inheritance
  Handed : (parent : List FramePair) (scopes : List Scope) (frames : List FramePair) (statement : Stmt) → Inheritance

-- how many frames stand below that of an index that the statement uses
abbrev pub Seen : List Scope → List FramePair → Stmt → ℕ → Type 0
Seen sc js st h = (x : ℕ) × (up : ℕ) × In_stmt st (use_of.Seen x) × (level (is_index x) sc ≡ Some up)
    × ((j : FramePair) × (rest : List FramePair) × (up_at up js ≡ j ∷ rest) × (length rest ≡ h))

abbrev pub writes_by : Program → Name → Inheritance → Loc → Type 0
writes_by p q Consoles l = OwnOrGiven First q l
writes_by p q (Handed older sc js st) l = OwnLocation q l ⊎ Aimed p (sources older) st l

abbrev pub reads_by : Program → Name → Inheritance → Loc → Type 0
reads_by p q Consoles l = OwnOrGiven First q l
reads_by p q (Handed older sc js st) l = OwnLocation q l ⊎ Used p (sources older) st l

abbrev pub indexes_by : Inheritance → ℕ → Type 0
indexes_by Consoles h = ⊥
indexes_by (Handed older sc js st) h = Seen sc js st h

-- channels, processes: by their numbers. low: above the frame numbers that its store knew at its birth; base: how many
-- frames it had then; born: its depth then; since: its ticks at its last entry; moved: what its fork gave it for its
-- own
pub record ProcessInfo : Type 0 where
  pub who : Identity
  pub given : Inheritance
  pub channels : List Channel
  pub processes : List Name
  pub low : ℕ
  pub base : ℕ
  pub born : ℕ
  pub since : ℕ
  pub moved : List Spot

-- no channel has two numbers; a process was born above what its store knew, with a frame at least
pub record IsProcessInfo (life : ProcessInfo) : Type 0 where
  pub channels : (c d : Channel) (i j : ℕ) → slice_get life.channels i ≡ Some c → slice_get life.channels j ≡ Some d
      → same_channel c d ≡ (i == j)
  pub based : 1 ≤ life.base
  pub low : life.low ≤ life.born + 1

module _ (g : RunInput) (moves shares : Stmt → List ℕ) (pause : ℕ) (life : ProcessInfo) where
  abbrev pub code_of : Parts
  code_of = program_code g.program moves shares

  abbrev pub Named : Channel → ℕ → Type 0
  Named c j = slice_get life.channels j ≡ Some c

  abbrev pub Called : Name → ℕ → Type 0
  Called q i = slice_get life.processes i ≡ Some q

  abbrev pub IsWritableLoc : Loc → Type 0
  IsWritableLoc l = writes_by g.program life.who.name life.given l

  abbrev pub IsReadable : Loc → Type 0
  IsReadable l = reads_by g.program life.who.name life.given l

  abbrev pub Indexes : ℕ → Type 0
  Indexes h = indexes_by life.given h

  -- due so many ticks after its last entry
  abbrev pub due_of : LocalState → Bool
  due_of o = due_after life.since pause o

  abbrev pub operations_of : Ops (Memory Plain)
  operations_of = memory plain (code_run g code_of pause)

  abbrev pub relation_of : Relation (Memory Plain)
  relation_of = relation g code_of life.who Named Called IsWritableLoc IsReadable Indexes life.low life.base life.born
      life.since pause life.moved

  -- its memory stands for its own part and what it holds of the store
  abbrev pub MemoryMatches : List FramePair → LocalState → Store → Memory Plain → Type 0
  MemoryMatches js o s n = Agrees g code_of life.who Named Called IsWritableLoc IsReadable Indexes life.low life.base
      life.born
      life.since pause life.moved js o s n

  -- what all operations keep, and that a call finds its block
  pub record Laws : Type 0 where
    pub keeps : KeepsRelation g life.who due_of IsWritableLoc IsReadable Indexes operations_of relation_of
    pub free : IsFreeOfInterference g.program
    pub reads_written : (l : Loc) → IsWritableLoc l → IsReadable l
    pub own_written : (n x : ℕ) → IsWritableLoc (Cell life.who.name n x)
    pub uses_formed : (f : ℕ) (b : Block) → slice_get g.program.blocks f ≡ Some b → (u : Use) → In_stmt b.body u
        → IsFormedUse g.program u
    pub layouts_found : (f : ℕ) (l : Layout) → slice_get code_of.layouts f ≡ Some l
        → layout_of code_of.layouts f ≡ Some l

  abbrev pub execution_of : Laws → Execution (Memory Plain)
  execution_of h = record {
    run_input = g;
    code = code_of;
    moves = moves;
    shares = shares;
    IsCallableInFunctions = NeverStops g.program;
    who = life.who;
    due = due_of;
    Writes = IsWritableLoc;
    IsReadable = IsReadable;
    Indexes = Indexes;
    operations = operations_of;
    relation = relation_of;
    laws = h.keeps;
    reads_written = h.reads_written;
    free = h.free;
    own_written = h.own_written;
    uses_formed = h.uses_formed;
    layouts_found = h.layouts_found;
  }

  -- what stands here may be done in these frames
  abbrev pub IsPlaced : List Scope → List FramePair → (Use → Type 0) → Type 0
  IsPlaced sc js Here = Placed g IsWritableLoc IsReadable Indexes sc js Here

  -- it stands, and its code follows what it has left to do and then comes to the end of a process. No function is being
  -- called
  pub record IsAt (h : Laws) (end : ℕ) (base : List Entry) (below js : List FramePair) (todo : List Item) (pc : ℕ)
      (stack : List Entry) (o : LocalState) (s : Store) (n : Memory Plain) : Type 0 where
    pub stands : MemoryMatches js o s n
    pub follows : CodeFollows (execution_of h) end base below pc stack js todo
    pub ends : slice_get code_of.instrs end ≡ Some i.End
    pub outer : is_in_no_function base ≡ true

  -- it is about to begin, with this to do
  abbrev pub IsAboutToBegin : List FramePair → List Item → LocalState → Store → Config (Memory Plain) → Type 0
  IsAboutToBegin js todo o s (At pc stack n) = (h : Laws) → (end : ℕ) × IsAt h end [] js js todo pc stack o s n

-- the first process
abbrev pub first_info : List Channel → List Name → ProcessInfo
first_info channels processes = record {
  who = record { name = []; forks = 0; opens = 0 };
  given = Consoles;
  channels = channels;
  processes = processes;
  low = 1;
  base = 1;
  born = 0;
  since = 0;
  moved = [];
}

-- a child that does a statement: older: the frames of its parent; depth: that of its parent
abbrev pub child_info : ProcessInfo → Identity → (older : List FramePair) → List Scope → (frames : List FramePair)
    → Stmt → (depth : ℕ)
    → Handing → ProcessInfo
child_info parent who older scopes frames s depth h =
    record {
      who = who;
      given = Handed older scopes frames s;
      channels = parent.channels;
      processes = parent.processes;
      low = suc (index_frame h);
      base = length frames;
      born = depth + 1;
      since = 0;
      moved = h.moved;
    }

-- its own part at its birth
abbrev pub own_at_birth : List Frame → (depth : ℕ) → LocalState
own_at_birth frames depth = record { frames = frames; depth = depth + 1; ticks = 0; cells = 0 }

-- its parent has what it hands over
abbrev pub HasHanded : Memory Plain → Handing → Type 0
HasHanded n h = (q : Spot) → In q h.moved ⊎ In q h.shared → IsSome (map.get n.store.map q)

-- what moved to children and is not back yet
abbrev pub IsAway : List Handing → (back : List Spot) → Spot → Type 0
IsAway hs back q = In q (moved_of hs) × NotIn q back

-- the frame of a forall's index, above these
abbrev pub index_frame_of : Name → (below : List FramePair) → ℕ → ℤ → Frame
index_frame_of q below x value = record {
  owner = q;
  number = length below;
  home = Home_of x value;
  link = length below;
  references = [];
}
