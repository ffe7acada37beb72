-- None of this belongs to what the program promises: it is for contracts between crates.
-- Where a process stands in its code: the code from its place on is that of what it has left to do; and how a turn of
-- it ends as the meaning's turn does. The laws of turns promise it, for any execution.
use Rattle.std.specs.Prelude.{◌≡◌, ◌⊎◌, ℕ, ◌+◌, ℤ, pos, ◌+ℤ◌, ◌-ℤ◌, nat_abs, int_lt, nat_lt, List, [], ◌∷◌, Some, Bool}
use Rattle.std.specs.Prelude.{true, false, slice_get, length, ◌++◌}
use Rattle.sp_base.specs.declared.fault.Fault.{Fault}
use Rattle.sp_tree.specs.Plain.{Expr, Program, Stmt, Repeat, Parallel, Forall, Stmts}
use Rattle.sp_tree.specs.Uses.{Use, In_stmt, In_loop}
use Rattle.sp_cell.specs.declared.cell.Cell.{Cell}
use Rattle.sp_cell.specs.declared.cell.Cell.TheVariants as cell
use Rattle.sp_cell.specs.declared.spot.Address.{Address as Ptr}
use Rattle.sp_meaning.specs.Maps.{at_key}
use Rattle.sp_meaning.specs.Model.{Channel, Payload, Message as MessagePayload, Takes}
use Rattle.sp_meaning.specs.Values.{Chan}
use Rattle.sp_meaning.specs.LocalWork.{LocationContent, Tree, Position, Written, Address, LocalState, Item, Do, First}
use Rattle.sp_meaning.specs.LocalWork.{Again, Test, Leave}
use Rattle.sp_meaning.specs.LocalWork.{Break, WorkOutcome, Computed, EndsInFault, IllFormed, OutOfFuel, content_with}
use Rattle.sp_meaning.specs.LocalWork.{same_loc}
use Rattle.sp_meaning.specs.Actions.{Action, Stepped, Ticked, Opened, Forked, Offered, Birth, is_range, children}
use Rattle.sp_meaning.specs.Actions.{indexed_children}
use Rattle.sp_meaning.specs.Actions as actions
use Rattle.sp_meaning.specs.Run.{Store}
use Rattle.sp_code.specs.declared.code.Parts.{Parts as Code}
use Rattle.sp_code.specs.declared.instr.Instr.TheVariants as i
use Rattle.sp_code.specs.Machine.{Entry, Stop, Opens, Sends, Receives, Forks, Ends as Ended, Pauses}
use Rattle.sp_code.specs.Machine.{Ops, Config, At, Stops, Fails, is_in_no_function, pause_step, next_step}
use Rattle.sp_code.specs.Machine.{values_in}
use Rattle.sp_code.specs.Machine as m
use Rattle.sp_code.specs.Turns.{RunsTo}
use Rattle.sp_code.specs.Scopes.{Scope, OfIndex, Channels, sort}
use Rattle.sp_code.specs.Places.{after_statement}
use Rattle.sp_code.specs.CodeOfTree.{CodeAt, HasFork, HasWords, StatementAt, ChildrenAt, TurnsAt}
use Rattle.sp_code.specs.TreeCode.{children_tables, child_table}
use Rattle.sp_codegen.specs.FramePairs.{FramePair}
use Rattle.sp_codegen.specs.Executions.{Execution}
use Rattle.sp_codegen.specs.Relation.{Relation, Placed, StackHolds}
use Rattle.sp_meaning.specs.Turn as source

-- the memory of the machine stands for the store
abbrev pub StandsFor : {M : Type 0} → Relation M → Config M → Store → Type 0
StandsFor rel (At pc st n) s = (js : List FramePair) × (o : LocalState) × rel.Agrees js o s n

-- the machine comes to an instruction that fails, and its memory stands for the store that the meaning then has
pub record RunsToFault {M : Type 0} (ops : Ops M) (rel : Relation M) (code : Code) (c : Config M) (f : Fault)
    (s : Store) :
    Type 0 where
  pub configuration : Config M
  pub comes : RunsTo ops code c configuration
  pub fails : next_step ops code configuration ≡ Fails f
  pub stands : StandsFor rel configuration s

abbrev pub cells_in : Entry → List Cell
cells_in (m.Number n) = cell.Ordinal n ∷ []
cells_in (m.Chan c) = cell.Channel c ∷ []
cells_in (m.Cells cs) = cs
cells_in _ = []

-- at the stop, the piece of a receiver's target is its own
abbrev pub IsOwned : {M : Type 0} → Ops M → Stop → M → Type 0
IsOwned ops (Forks t value k) n = Unit {0}
IsOwned ops (Opens a) n = Unit {0}
IsOwned ops (Sends c k cs) n = Unit {0}
IsOwned {M} ops (Receives c k a) n = (before : M) × (n ≡ ops.make_own a before)
IsOwned ops Ended n = Unit {0}
IsOwned ops Pauses n = Unit {0}

module _ {M : Type 0} (ex : Execution M) where
  open ex use {
    run_input as g,
    code,
    moves,
    shares,
    IsCallableInFunctions as callable,
    who as w,
    Writes as W,
    IsReadable as R,
    Indexes as J,
    operations as ops,
    relation as rel,
  }

  abbrev p : Program
  p = g.program

  abbrev Pl : List Scope → List FramePair → (Use → Type 0) → Type 0
  Pl sc js Here = Placed g W R J sc js Here

  -- the machine comes from one place to another, and only jumps
  pub record Slides (pc q : ℕ) (stack : List Entry) : Type 0 where
    pub proof : (n : M) → RunsTo ops code (At pc stack n) (At q stack n)

  abbrev pub Turns : Bool → List Scope → ℕ → ℕ → Bool → Stmt → Type 0
  Turns free sc q x down s = TurnsAt p moves shares (CodeAt code) (HasFork code) (HasWords code) callable sc q x down
      (after_statement p (q + 1 + 1) s) (StatementAt p moves shares (CodeAt code) (HasFork code)
      (HasWords code) callable
      free sc
      (q + 1 + 1) s)

  -- the code of one item stands at q. Rest says that the code of the items after it stands at a place
  module _ (Rest : ℕ → List Entry → List FramePair → Type 0) where
    -- a statement
    pub record StatementFollows (s : Stmt) (q : ℕ) (stack : List Entry) (fs : List FramePair) : Type 0 where
      pub scopes : List Scope
      pub placed : Pl scopes fs (In_stmt s)
      pub stands : StatementAt p moves shares (CodeAt code) (HasFork code) (HasWords code) callable
          (is_in_no_function stack) scopes q s
      pub rest : Rest (after_statement p q s) stack fs

    -- a for loop whose limits are on the stack, or, with the later of them there, at the end of a turn
    pub record LoopFollows (x : ℕ) (down : Bool) (s : Stmt) (limits : List Entry) (q : ℕ) (stack : List Entry)
        (fs : List FramePair) : Type 0 where
      pub scopes : List Scope
      pub under : List Entry
      pub stack_is : stack ≡ limits ++ under
      pub placed : Pl scopes fs (In_loop x s)
      pub turns : Turns (is_in_no_function under) scopes q x down s
      pub rest : Rest (after_statement p (q + 1 + 1) s + 1) under fs

    -- the end of a call
    pub record LeaveFollows (q : ℕ) (stack : List Entry) (fs : List FramePair) : Type 0 where
      pub back : ℕ
      pub under : List Entry
      pub frame : FramePair
      pub outer : List FramePair
      pub stack_is : stack ≡ m.Link back ∷ under
      pub returns : slice_get code.instrs q ≡ Some i.Return
      pub frames_are : fs ≡ frame ∷ outer
      pub rest : Rest back under outer
      pub mine : rel.Mine frame outer

  -- from this place, with this stack and these frames, the code is that of what is left, and then comes to the end,
  -- with the stack base and the frames below
  abbrev pub CodeFollows : ℕ → List Entry → List FramePair → ℕ → List Entry → List FramePair → List Item → Type 0
  CodeFollows end base below pc stack fs [] = Slides pc end stack × (stack ≡ base) × (fs ≡ below)
  CodeFollows end base below pc stack fs (Do s ∷ todo) = (q : ℕ) × Slides pc q stack
      × StatementFollows (λ to st js. CodeFollows end base below to st js todo) s q stack fs
  CodeFollows end base below pc stack fs (First x low high down s ∷ todo) = (q : ℕ) × Slides pc q stack
      × LoopFollows (λ to st js. CodeFollows end base below to st js todo) x down s
      (m.Number high ∷ m.Number low ∷ []) q stack fs × (is_range down low high ≡ true)
  CodeFollows end base below pc stack fs (Again x limit down s ∷ todo) =
      (q : ℕ) × Slides pc (after_statement p (q + 1 + 1) s) stack
      × LoopFollows (λ to st js. CodeFollows end base below to st js todo) x down s (m.Number limit ∷ []) q stack fs
  CodeFollows end base below pc stack fs (Test s e ∷ todo) =
      (q : ℕ) × Slides pc (after_statement p (q + 1) s) stack
      × StatementFollows (λ to st js. CodeFollows end base below to st js todo) (Repeat s e) q stack fs
  CodeFollows end base below pc stack fs (Leave ∷ todo) = (q : ℕ) × Slides pc q stack
      × LeaveFollows (λ to st js. CodeFollows end base below to st js todo) q stack fs
  CodeFollows end base below pc stack fs (Break f ∷ todo) = ⊥

  -- what is sent or received, at the stop
  abbrev pub PayloadIs : List FramePair → Channel → ℕ → Payload LocationContent Address → Stop → Type 0
  PayloadIs fs c k (MessagePayload (Tree v)) z = (j : ℕ) × (e : Entry) × (z ≡ Sends j k (cells_in e)) × rel.Named c j
      × StackHolds rel p (sort p k) k v e
  PayloadIs fs c k (MessagePayload (Position n)) z = ⊥
  PayloadIs fs c k (MessagePayload (Written bs)) z = ⊥
  PayloadIs fs c k (Takes a) z = (j : ℕ) × (t : Ptr) × (z ≡ Receives j k t) × rel.Named c j × (a.kind ≡ k)
      × rel.Points fs a t × R a.spot

  -- at a parallel statement, whose code begins at `start`, with the frames that its children share
  pub record ParallelStop (free : Bool) (frames : List FramePair) (bs : List Birth) (stop : Stop) : Type 0 where
    pub statements : Stmts
    pub table : ℕ
    pub start : ℕ
    pub scopes : List Scope
    pub stop_is : stop ≡ Forks table (pos 0) (length (children_tables p moves shares start statements))
    pub table_is : HasFork code table (record { children = children_tables p moves shares start statements })
    pub births_are : bs ≡ children statements
    pub children_stand : ChildrenAt p moves shares (CodeAt code) (HasFork code) (HasWords code) callable free scopes
        start statements
    pub placed : Pl scopes frames (In_stmt (Parallel statements))

  -- at a forall, with a child for each value
  pub record ForallStop (free : Bool) (frames : List FramePair) (bs : List Birth) (stop : Stop) : Type 0 where
    pub index : ℕ
    pub from : Expr
    pub to : Expr
    pub body : Stmt
    pub low : ℤ
    pub high : ℤ
    pub table : ℕ
    pub start : ℕ
    pub scopes : List Scope
    pub stop_is : stop ≡ Forks table low (values_in low high)
    pub table_is : HasFork code table (record { children = child_table p moves shares start (Some index) body ∷ [] })
    pub births_are : bs ≡ indexed_children index body low (nat_abs ((high -ℤ low) +ℤ pos 1))
    pub not_empty : int_lt high low ≡ false
    pub body_stands : StatementAt p moves shares (CodeAt code) (HasFork code) (HasWords code) callable free
        (OfIndex index ∷ scopes) start body
    pub ends : slice_get code.instrs (after_statement p start body) ≡ Some i.End
    pub placed : Pl scopes frames (In_stmt (Forall index from to body))

  abbrev pub ForkStop : Bool → List FramePair → List Birth → Stop → Type 0
  ForkStop free frames bs stop = ParallelStop free frames bs stop ⊎ ForallStop free frames bs stop

  -- what shows where the instruction stands that ends a step of a process. Q says that the code of what is left stands
  -- at a place
  module _ (Q : List Item → List FramePair → ℕ → List Entry → Type 0) where
    -- the process goes on here
    pub record AfterStep (todo : List Item) (o : LocalState) (s : Store) (pc : ℕ) (stack : List Entry)
        (memory : M) : Type 0 where
      pub frames : List FramePair
      pub stand : rel.Agrees frames o s memory
      pub follows : Q todo frames pc stack

    -- a tick
    pub record AfterTick (todo : List Item) (o : LocalState) (s : Store) (last : Config M) : Type 0 where
      pub pc : ℕ
      pub stack : List Entry
      pub memory : M
      pub frames : List FramePair
      pub ticks : next_step ops code last ≡ pause_step ops code pc stack memory
      pub stand : rel.Agrees frames o s memory
      pub follows : Q todo frames pc stack

    -- the process is due
    pub record AtPause (todo : List Item) (o : LocalState) (s : Store) (last : Config M) : Type 0 where
      pub pc : ℕ
      pub stack : List Entry
      pub memory : M
      pub frames : List FramePair
      pub stops : next_step ops code last ≡ Stops Pauses (At pc stack memory)
      pub stand : rel.Agrees frames o s memory
      pub follows : Q todo frames pc stack

    -- a channel is opened: the store before it, and the variable that takes the channel
    pub record AtOpen (todo : List Item) (o : LocalState) (s : Store) (last : Config M) : Type 0 where
      pub pc : ℕ
      pub stack : List Entry
      pub memory : M
      pub frames : List FramePair
      pub variable : Address
      pub target : Ptr
      pub store : Store
      pub stops : next_step ops code last ≡ Stops (Opens target) (At pc stack memory)
      pub stand : rel.Agrees frames o store memory
      pub points : rel.Points frames variable target
      pub readable : R variable.spot
      pub store_is : s ≡ at_key same_loc variable.spot
          (content_with variable (store variable.spot) (Tree (Chan (record { owner = w.name; nth = w.opens })))) store
      pub follows : Q todo frames pc stack
      pub outside : is_in_no_function stack ≡ true
      pub sort_is : sort p variable.kind ≡ Channels

    -- children begin
    pub record AtFork (bs : List Birth) (todo : List Item) (o : LocalState) (s : Store) (last : Config M) : Type 0 where
      pub pc : ℕ
      pub stack : List Entry
      pub memory : M
      pub frames : List FramePair
      pub stop : Stop
      pub stops : next_step ops code last ≡ Stops stop (At pc stack memory)
      pub stand : rel.Agrees frames o s memory
      pub follows : Q todo frames pc stack
      pub outside : is_in_no_function stack ≡ true
      pub forks : ForkStop (is_in_no_function stack) frames bs stop
      pub may_nest : nat_lt o.depth g.limits.depth ≡ true

    -- a value is sent or received
    pub record AtOffer (ch : Channel) (k : ℕ) (payload : Payload LocationContent Address) (todo : List Item)
        (o : LocalState) (s : Store) (last : Config M) : Type 0 where
      pub pc : ℕ
      pub stack : List Entry
      pub memory : M
      pub frames : List FramePair
      pub stop : Stop
      pub stops : next_step ops code last ≡ Stops stop (At pc stack memory)
      pub stand : rel.Agrees frames o s memory
      pub carries : PayloadIs frames ch k payload stop
      pub follows : Q todo frames pc stack
      pub outside : is_in_no_function stack ≡ true
      pub owned : IsOwned ops stop memory

    -- the process ends
    pub record AtFinish (o : LocalState) (s : Store) (pc : ℕ) (stack : List Entry) (memory : M) : Type 0 where
      pub frames : List FramePair
      pub stops : next_step ops code (At pc stack memory) ≡ Stops Ended (At pc stack memory)
      pub stand : rel.Agrees frames o s memory
      pub follows : Q [] frames pc stack
      pub outside : is_in_no_function stack ≡ true

    abbrev pub MadeAt : Action → LocalState → Store → Config M → Type 0
    MadeAt (Stepped todo) o s (At pc stack memory) = AfterStep todo o s pc stack memory
    MadeAt (Ticked todo) o s last = AfterTick todo o s last
    MadeAt (Opened todo) o s last = AtOpen todo o s last
    MadeAt (Forked bs todo) o s last = AtFork bs todo o s last
    MadeAt (Offered ch k payload todo) o s last = AtOffer ch k payload todo o s last
    MadeAt actions.Ended o s (At pc stack memory) = AtFinish o s pc stack memory

  -- one step of a process from the configuration c: the machine comes to the instruction that ends it
  abbrev pub Made : Config M → (List Item → List FramePair → ℕ → List Entry → Type 0) → WorkOutcome Action × Store
      → Type 0
  Made c Q (Computed d o, s) = (last : Config M) × RunsTo ops code c last × MadeAt Q d o s last
  Made c Q (EndsInFault f, s) = RunsToFault ops rel code c f s
  Made c Q (IllFormed, s) = ⊥
  Made c Q (OutOfFuel, s) = Unit {0}

  -- one turn of the code as the local steps of the meaning up to the first moment at which the process is due, or its
  -- next step is one of the kernel
  abbrev pub Turned : Config M → ℕ → List Entry → List FramePair → WorkOutcome source.Stop × Store → Type 0
  Turned c end base below (Computed (source.Paused todo) o, s) =
      (last : Config M) × RunsTo ops code c last
      × AtPause (λ todo fs pc st. CodeFollows end base below pc st fs todo) todo o s last
  Turned c end base below (Computed (source.Stops d) o, s) =
      Made c (λ todo fs pc st. CodeFollows end base below pc st fs todo) (Computed d o, s)
  Turned c end base below (EndsInFault f, s) = RunsToFault ops rel code c f s
  Turned c end base below (IllFormed, s) = ⊥
  Turned c end base below (OutOfFuel, s) = Unit {0}
