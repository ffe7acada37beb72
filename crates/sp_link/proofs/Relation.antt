-- How the system of the machine stands for the state of the meaning after the same entries. `RunContext` is what a run
-- is of, `BirthRights` what its birth gives to a process for good, `Performs` what one process does on both sides,
-- condition by condition, and `Linked` the whole: names, totals, pending offers, faults, and every process. Names and
-- numbers are those of the whole journal, so that nothing in the relation has to grow when a process is born; of
-- channels only those are named that are open so far.
use Rattle.std.proofs.Common.{◌≡◌, ◌⊎◌, ℕ, zero, suc, ◌+◌, ◌<◌, ◌≤◌, ◌==◌, List, [], ◌∷◌, length, Option, Some, None}
use Rattle.std.proofs.Common.{Bool, true, false, if◌then◌else◌, eqb-true, eq-eqb, sym, arith, refl, ap, ◌∙◌, inl}
use Rattle.std.specs.Prelude.{◌≢◌, ℤ, IsSome, slice_get}
use Rattle.std.specs.FinMap as fin
use Rattle.sp_base.specs.declared.fault.Fault.TheVariants as fault
use Rattle.sp_tree.specs.Plain.{Program, Stmt}
use Rattle.sp_tree.specs.Interference.{IsFreeOfInterference}
use Rattle.sp_journal.specs.Births.{Births, channel}
use Rattle.sp_journal.proofs.BirthLaws.{Born}
use Rattle.sp_cell.specs.declared.spot.Spot.{Spot}
use Rattle.sp_cell.specs.Map.{Map, Plain, Away, IsOwn, with_map, output_spot, output_of}
use Rattle.sp_cell.specs.Spots.{In, NotIn}
use Rattle.sp_meaning.specs.Model.{Name, Channel, same_channel, Payload, Offer, Condition, Absent, Waits, Joins, Ended}
use Rattle.sp_meaning.specs.Steps.{own_part_in, has_ended}
use Rattle.sp_meaning.specs.LocalWork.{RunInput, Loc, Cell, Input, Output, OfIndex, LocationContent, Written, Address}
use Rattle.sp_meaning.specs.LocalWork.{LocalState, Identity, Item}
use Rattle.sp_meaning.specs.LocalWork.{Break, Process}
use Rattle.sp_meaning.specs.Run.{Store}
use Rattle.sp_meaning.specs.SuperPascal.{root}
use Rattle.sp_meaning.specs.Runs.{StateOf}
use Rattle.sp_meaning.specs.Along.{JournalState}
use Rattle.sp_meaning.proofs.Rights.{OwnLocation}
use Rattle.sp_meaning.proofs.Keys.{channel_test}
use Rattle.sp_meaning.proofs.RightsInvariant.{Inv}
use Rattle.sp_meaning.proofs.Pure.{AreFunctionsPure, DoFunctionsTakeValues}
use Rattle.sp_meaning.proofs.StepLaws.{StateKeeps}
use Rattle.sp_code.specs.declared.code.Layout.{Layout}
use Rattle.sp_code.specs.declared.code.Parts.{Parts as Code}
use Rattle.sp_code.specs.declared.instr.Instr.TheVariants as i
use Rattle.sp_code.specs.Machine.{Entry, Stop, Config, At, Ops, layout_of}
use Rattle.sp_code.specs.Machine as machine
use Rattle.sp_code.specs.Turns.{frames_fit}
use Rattle.sp_code.specs.Memory.{Memory, memory, position_at, first_process}
use Rattle.sp_code.specs.Memory as m
use Rattle.sp_code.specs.PlainStore.{plain}
use Rattle.sp_code.specs.System.{System}
use Rattle.sp_code.specs.System as sys
use Rattle.sp_code.specs.Scopes.{slot}
use Rattle.sp_code.specs.Shares.{SetsAre}
use Rattle.sp_code.specs.Sizes.{HasSmallTypes}
use Rattle.sp_code.specs.Sound.{AreLimits}
use Rattle.sp_code.specs.CodeOfTree.{BlocksAt}
use Rattle.sp_tree.specs.TreeShape.{IsFormed}
use Rattle.sp_codegen.specs.FramePairs.{FramePair, pairs_from}
use Rattle.sp_codegen.specs.TurnAgrees.{code_run, due_after}
use Rattle.sp_codegen.specs.Executions.{Execution}
use Rattle.sp_codegen.specs.CodePositions.{CodeFollows, PayloadIs}
use Rattle.sp_codegen.specs.Relation.{Relation, KeepsRelation}
use Rattle.sp_codegen.specs.MemoryRelation.{Live, Agrees, relation, spot_at}
use Rattle.sp_codegen.proofs.Returns.{Laid}
use Rattle.sp_codegen.proofs.Instance.{instance}
use Rattle.sp_codegen.proofs.Joins.{Joining}

-- what a run of the code of a tree is of, and all that its journal gives
pub record RunContext : Type 1 where
  pub g : RunInput
  pub code : Code
  pub moves : Stmt → List ℕ
  pub shares : Stmt → List ℕ
  pub callable : ℕ → Type 0
  pub pause : ℕ
  pub births : Births
  -- how many channels are open so far
  pub opened : ℕ
  pub formed : IsFormed g.program
  pub small : HasSmallTypes g.program
  pub laid : Laid g.program code.layouts
  pub free : IsFreeOfInterference g.program
  -- functions change nothing outside themselves, and take values alone
  pub pure : AreFunctionsPure g.program
  pub values : DoFunctionsTakeValues g.program
  pub finds : (f : ℕ) (l : Layout) → slice_get code.layouts f ≡ Some l → layout_of code.layouts f ≡ Some l
  pub blocks : BlocksAt g.program moves shares code callable
  pub sets : SetsAre g.program moves shares
  pub limits : AreLimits g.limits
  pub one_name : (a b : ℕ) → a < births.processes → b < births.processes → births.name a ≡ births.name b → a ≡ b
  pub one_channel : (c d : ℕ) → c < births.channels → d < births.channels → channel births c ≡ channel births d → c ≡ d

-- so many channels are open
abbrev pub at_open : RunContext → ℕ → RunContext
at_open G n = record G { opened = n }

-- what its birth gave to a process: what it may write and read in the frames of others, whose indexes it holds, above
-- which number its frames are, its depth, what moved to it, its frames, and where its code ends
pub record BirthRights : Type 1 where
  pub W : Loc → Type 0
  pub R : Loc → Type 0
  pub J : ℕ → Type 0
  pub low : ℕ
  pub born : ℕ
  pub moved : List Spot
  pub below : List FramePair
  pub end : ℕ

-- so far the entries have given what they have given in the end
pub record Begun (all b : Births) : Type 0 where
  pub processes : b.processes ≤ all.processes
  pub channels : b.channels ≤ all.channels
  pub names : (i : ℕ) → i < b.processes → b.name i ≡ all.name i
  pub openings : (j : ℕ) → j < b.channels → channel b j ≡ channel all j
  -- how each came to be
  pub root : (b.birth 0 ≡ None) × (b.name 0 ≡ []) × (0 < b.processes)
  pub born : (i : ℕ) → 0 < i → i < b.processes → Born b i

abbrev pub Began : RunContext → Births → Type 0
Began G b = Begun G.births b

-- one that waits to receive has a piece of its own for it
abbrev pub HasOwnTarget : Stop → Config (Memory Plain) → Type 0
HasOwnTarget (machine.Receives ch k a) d = IsOwn (fin.get (sys.store_of d).map a.spot)
HasOwnTarget _ _ = Unit {0}

module _ (G : RunContext) where
  abbrev pub p : Program
  p = G.g.program

  abbrev pub run_is : m.CodeRun
  run_is = code_run G.g G.code G.pause

  abbrev pub ops : Ops (Memory Plain)
  ops = memory plain run_is

  -- a process with this name has this number, and so a channel
  abbrev pub Called : Name → ℕ → Type 0
  Called q i = (i < G.births.processes) × (G.births.name i ≡ q)

  abbrev pub Named : Channel → ℕ → Type 0
  Named c j = (j < G.opened) × (j < G.births.channels) × (channel G.births j ≡ c)

  pub told : (c d : Channel) (a b : ℕ) → Named c a → Named d b → same_channel c d ≡ (a == b)
  told c d a b h k = go (a == b) refl
    where
      go : (z : Bool) → a == b ≡ z → same_channel c d ≡ z
      go true e = (channel_test c d).1 (sym h.2 ∙ ap (channel G.births) (eqb-true a b e) ∙ k.2)
      go false e = other (same_channel c d) refl
        where
          other : (z : Bool) → same_channel c d ≡ z → z ≡ false
          other true f = let same = G.one_channel a b h.1 k.1 (h.2 ∙ (channel_test c d).0 f ∙ sym k.2) in
              absurd (cc (sym e ∙ eq-eqb a b same))
          other false f = refl

  -- kids: the lives of its children, by fork and number
  module _ (lf : BirthRights) (kids : ℕ → ℕ → BirthRights) (q : Name) where
    abbrev pub IsWritableLoc : Loc → Type 0
    IsWritableLoc l = OwnLocation q l ⊎ lf.W l

    abbrev pub IsReadable : Loc → Type 0
    IsReadable l = OwnLocation q l ⊎ lf.R l

    abbrev pub base : ℕ
    base = length lf.below

    abbrev pub St : Identity → ℕ → List FramePair → LocalState → Store → Memory Plain → Type 0
    St w since js o s n = Agrees G.g G.code w Named Called IsWritableLoc IsReadable lf.J lf.low base lf.born since
        G.pause
        lf.moved js o s n

    abbrev pub Rel : Identity → ℕ → Relation (Memory Plain)
    Rel w since = relation G.g G.code w Named Called IsWritableLoc IsReadable lf.J lf.low base lf.born since G.pause
        lf.moved

    -- of a birth
    pub record Fresh : Type 0 where
      pub based : 1 ≤ base
      pub reads : (l : Loc) → IsWritableLoc l → IsReadable l
      pub low_small : lf.low ≤ lf.born + 1
      pub ends : slice_get G.code.instrs lf.end ≡ Some i.End

    module _ (f : Fresh) (w : Identity) (named : w.name ≡ q) (since : ℕ) where
      pub law : KeepsRelation G.g w (due_after since G.pause) IsWritableLoc IsReadable lf.J ops (Rel w since)
      law = instance G.g G.code w Named Called IsWritableLoc IsReadable lf.J lf.low base lf.born since G.pause lf.moved
          G.formed G.small G.laid f.based (λ n x. inl named)
          (let a = f.low_small in let b = G.limits.depth in omega (arith, a, b)) told

      -- all that the simulation of its turns speaks of
      abbrev pub execution : Execution (Memory Plain)
      execution = record {
        run_input = G.g;
        code = G.code;
        moves = G.moves;
        shares = G.shares;
        IsCallableInFunctions = G.callable;
        who = w;
        due = due_after since G.pause;
        Writes = IsWritableLoc;
        IsReadable = IsReadable;
        Indexes = lf.J;
        operations = ops;
        relation = Rel w since;
        laws = law;
        reads_written = f.reads;
        free = G.free;
        own_written = λ n x. inl named;
        uses_formed = G.formed.uses;
        layouts_found = G.finds;
      }

      -- the code of what is left, from a place with a stack and frames, to the process's end
      abbrev pub Fo : ℕ → List Entry → List FramePair → List Item → Type 0
      Fo pc stack js todo = CodeFollows execution lf.end [] lf.below pc stack js todo

      -- the offer of a waiting process
      abbrev pub Ca : List FramePair → Channel → ℕ → Payload LocationContent Address → Stop → Type 0
      Ca js c k x z = PayloadIs execution js c k x z

    -- a process that runs, or that waits at an offer: c is where the machine has it
    pub record ProcessMatches (since : ℕ) (pr : Process) (s : Store) (c : Config (Memory Plain)) : Type 0 where
      pub fresh : Fresh
      pub named : pr.who.name ≡ q
      pub js : List FramePair
      pub pc : ℕ
      pub stack : List Entry
      pub memory : Memory Plain
      pub configuration_is : c ≡ At pc stack memory
      pub stand : St pr.who since js pr.own s memory
      pub follows : Fo fresh pr.who named since pc stack js pr.todo

    -- a child of which the process that forked it at js with the memory n keeps these facts, as long as it lives
    pub record Handed (js : List FramePair) (n : Memory Plain) (v : BirthRights) (z : Name) : Type 0 where
      -- what moved to it is what it may read there, in frames that it knows; and what it may write there moved to it
      pub live : (r : Name) (h x : ℕ) → (l : Live p js r h x) → IsReadable (Cell r h x)
          → In (spot_at l.joint.machine.number (slot p x)) v.moved
          → (OwnLocation z (Cell r h x) ⊎ v.R (Cell r h x))
          × ((k : Live p v.below r h x) × (k.joint ≡ l.joint) × (k.info ≡ l.info))
      pub aims : (r : Name) (h x : ℕ) → (l : Live p js r h x) → v.W (Cell r h x)
          → In (spot_at l.joint.machine.number (slot p x)) v.moved
      pub no_index : (h : ℕ) → lf.J h → (j : FramePair) (rest : List FramePair) (x : ℕ) (i : ℤ)
          → pairs_from (suc h) js ≡ j ∷ rest
          → j.source.home ≡ OfIndex x i → NotIn (spot_at j.machine.number 0) v.moved
      pub input : IsReadable Input → In position_at.spot v.moved → v.R Input
      pub output : IsReadable Output → In output_spot v.moved → v.R Output
      pub input_aims : v.W Input → In position_at.spot v.moved
      pub output_aims : v.W Output → In output_spot v.moved
      pub old : (a : Spot) → In a v.moved → IsSome (fin.get n.store.map a)
      -- and each spot that moved is one that it holds
      pub kept : (a : Spot) → In a v.moved → (v.R Input × (a ≡ position_at.spot)) ⊎ ((v.R Output × (a ≡ output_spot))
          ⊎ ((r : Name) × (h : ℕ) × (x : ℕ) × (k : Live p v.below r h x)
          × (OwnLocation z (Cell r h x) ⊎ v.R (Cell r h x))
          × (a ≡ spot_at k.joint.machine.number (slot p x))))

    -- child i of fork k has not ended
    abbrev pub Lives_yet : StateOf G.g → ℕ → ℕ → ℕ → Type 0
    Lives_yet s k n i = (i < n) × (has_ended (s.condition ((k, i) ∷ q)) ≡ false)

    -- what is away with the children that have not ended
    abbrev pub Away_yet : StateOf G.g → ℕ → ℕ → Spot → Type 0
    Away_yet s k n a = (i : ℕ) × Lives_yet s k n i × In a (kids k i).moved

    -- how many of the first n children of fork k have not ended
    abbrev pub left_of : (Name → Condition Process LocationContent Address) → ℕ → ℕ → ℕ
    left_of c k zero = 0
    left_of c k (suc i) = (if has_ended (c ((k, i) ∷ q)) then 0 else 1) + left_of c k i

    -- a process that joins: its memory is that of the fork, with another map
    pub record Joined (since k n left : ℕ) (pr : Process) (s : StateOf G.g) (c : Config (Memory Plain)) : Type 0 where
      pub fresh : Fresh
      pub named : pr.who.name ≡ q
      pub js : List FramePair
      pub pc : ℕ
      pub stack : List Entry
      pub memory : Memory Plain
      pub held : Map
      pub configuration_is : c ≡ At pc stack (record memory { store = with_map memory.store held })
      pub joining : Joining G.g G.code pr.who Named Called IsWritableLoc IsReadable lf.J lf.low base lf.born since
          G.pause
          lf.moved (Away_yet s k n) js pr.own s.store memory held
      pub follows : Fo fresh pr.who named since pc stack js pr.todo
      pub count : left ≡ left_of s.condition k n
      pub some : 1 ≤ left
      pub there : (i : ℕ) → i < n → s.condition ((k, i) ∷ q) ≢ Absent
      pub children : (i : ℕ) → Lives_yet s k n i → Handed js memory (kids k i) ((k, i) ∷ q)
      -- what moved to a child that lives is away, and moved to no other
      pub gone : (i : ℕ) → Lives_yet s k n i → (a : Spot) → In a (kids k i).moved → fin.get held a ≡ Some Away
      pub parted : (i j : ℕ) → Lives_yet s k n i → Lives_yet s k n j → i ≢ j → (a : Spot) → In a (kids k i).moved
          → In a (kids k j).moved → ⊥

    -- the output, of a process that does nothing more
    abbrev pub OutputMatches : Store → Config (Memory Plain) → Type 0
    OutputMatches s (At pc st n) = IsReadable Output → (bs : List ℕ) × (s Output ≡ Written bs)
        × (output_of (fin.get n.store.map output_spot) ≡ Some bs)

    -- the first process where the frame of the program is too large: F12 comes before its first instruction
    pub record TooLarge (s : Store) (pr : Process) (c : Config (Memory Plain)) : Type 0 where
      pub is_first : q ≡ []
      pub faults : (root G.g).todo ≡ Break fault.F12 ∷ []
      pub is_root : pr ≡ root G.g
      pub configuration_is : c ≡ first_process plain run_is
      pub no_room : frames_fit ops G.code c ≡ false
      pub output : OutputMatches s c

    -- condition by condition
    abbrev pub Performs : JournalState → StateOf G.g → ℕ → sys.Condition Plain → Type 0
    Performs c s opens sys.Absent = ⊥
    Performs c s opens (sys.Working d) = (pr : Process) × (own_part_in s.condition q (s.condition q) ≡ Some pr)
        × (ProcessMatches (c.since q) pr s.store d ⊎ TooLarge s.store pr d) × (pr.who.opens ≡ opens)
        × (c.laid q ≡ false)
    Performs c s opens (sys.Waits z d) = (o : Offer Process LocationContent Address) × (s.condition q ≡ Waits o)
        × (t : ProcessMatches (c.since q) o.next s.store d)
        × Ca t.fresh o.next.who t.named (c.since q) t.js o.channel o.kind o.payload z × (o.next.who.opens ≡ opens)
        × (c.laid q ≡ false) × HasOwnTarget z d
    Performs c s opens (sys.Joins left d) = (k n : ℕ) × (pr : Process) × (s.condition q ≡ Joins k n pr)
        × Joined (c.since q) k n left pr s d × (pr.who.opens ≡ opens) × (c.laid q ≡ false)
    Performs c s opens (sys.Laid d) = (c.laid q ≡ true) × (c.faulted ≡ true)
        × ((pr : Process) × (own_part_in s.condition q (s.condition q) ≡ Some pr)) × OutputMatches s.store d
    Performs c s opens sys.Gone = (s.condition q ≡ Ended) × (q ≢ [])
    Performs c s opens (sys.Over d) = (s.condition q ≡ Ended) × (q ≡ []) × OutputMatches s.store d

  -- the lives of all
  abbrev pub RightsOfAll : Type 1
  RightsOfAll = Name → BirthRights

  abbrev pub W_of : RightsOfAll → Name → Loc → Type 0
  W_of lv q l = (lv q).W l

  abbrev pub R_of : RightsOfAll → Name → Loc → Type 0
  R_of lv q l = (lv q).R l

  abbrev pub Performs_all : RightsOfAll → Name → JournalState → StateOf G.g → ℕ → sys.Condition Plain → Type 0
  Performs_all lv q c s opens x = Performs (lv q) (λ k i. lv ((k, i) ∷ q)) q c s opens x

  -- whose offer is pending, by name and by number
  abbrev pub IsPending : Option Name → Option ℕ → Type 0
  IsPending None None = Unit {0}
  IsPending None (Some z) = ⊥
  IsPending (Some q) None = ⊥
  IsPending (Some q) (Some z) = Called q z

  -- the two states, after the same entries
  pub record Linked (lv : RightsOfAll) (c : JournalState) (s : StateOf G.g) (u : System Plain) : Type 0 where
    pub rights : Inv G.g.program (W_of lv) (R_of lv) s.condition s.forks
    pub known : StateKeeps G.g s
    -- the first process may read the output
    pub reads_output : R_of lv [] Output
    pub began : Began G u.births
    pub open_is : G.opened ≡ u.births.channels
    pub forks : (i : ℕ) → i < u.births.processes → s.forks (G.births.name i) ≡ u.births.forks i
    pub processes : s.totals.processes ≡ u.births.processes
    pub channels : s.totals.channels ≡ u.births.channels
    pub entries : s.totals.entries ≡ u.entries
    -- who is not born yet has made no entry
    pub fresh_since : (q : Name) → s.condition q ≡ Absent → c.since q ≡ 0
    pub pending : (j : ℕ) → j < u.births.channels → IsPending (s.pending (channel G.births j)) (u.pending j)
    pub none_pending : (j : ℕ) → u.births.channels ≤ j → u.pending j ≡ None
    pub faulted : c.faulted ≡ u.faulted
    pub no_fault : u.faulted ≡ false → s.fault ≡ None
    pub unlaid : u.faulted ≡ false → (q : Name) → c.laid q ≡ false
    pub does : (i : ℕ) → i < u.births.processes
        → Performs_all lv (G.births.name i) c s (u.births.opens i) (u.condition i)
    pub unborn : (i : ℕ) → u.births.processes ≤ i → u.condition i ≡ sys.Absent
    -- who is not there yet has made no fork and no open
    pub unmade : (i : ℕ) → u.births.processes ≤ i → (u.births.forks i ≡ 0) × (u.births.opens i ≡ 0)
    -- who is anything in the meaning has a number
    pub numbered : (q : Name) → s.condition q ≢ Absent → (i : ℕ) × (i < u.births.processes) × (G.births.name i ≡ q)

-- a process that runs, before its turn, in two states that are linked
pub record AtStop : Type 1 where
  pub run : RunContext
  pub lives : RightsOfAll run
  pub course : JournalState
  pub state : StateOf run.g
  pub system : System Plain
  pub linked : Linked run lives course state system
  pub number : ℕ
  pub configuration : Config (Memory Plain)
  pub working : system.condition number ≡ sys.Working configuration

-- by its parts
abbrev pub stop_of : (G : RunContext) (lv : RightsOfAll G) (c : JournalState) (s : StateOf G.g) (u : System Plain)
    → Linked G lv c s u → (i : ℕ) (d : Config (Memory Plain)) → u.condition i ≡ sys.Working d → AtStop
stop_of G lv c s u l i d at = record {
  run = G;
  lives = lv;
  course = c;
  state = s;
  system = u;
  linked = l;
  number = i;
  configuration = d;
  working = at;
}
