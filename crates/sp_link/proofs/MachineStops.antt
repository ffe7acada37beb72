-- Where a turn of the machine ends, by the event that it stops at: the parts of `Turned`, of its forks and of its
-- payload by name. The lemma of each event takes such a record.
use Rattle.std.specs.Prelude.{◌≡◌, ℕ, nat_lt, List, [], true}
use Rattle.std.proofs.Common.{subst}
use Rattle.sp_cell.specs.declared.spot.Address.{Address as Ptr}
use Rattle.sp_cell.specs.Map.{Plain}
use Rattle.sp_meaning.specs.Maps.{at_key}
use Rattle.sp_meaning.specs.Model.{Channel, Payload}
use Rattle.sp_meaning.specs.Values.{Chan}
use Rattle.sp_meaning.specs.LocalWork.{LocationContent, Tree, Address, LocalState, Item, Computed, content_with}
use Rattle.sp_meaning.specs.LocalWork.{same_loc}
use Rattle.sp_meaning.specs.Actions.{Opened, Forked, Offered, Ended, Birth}
use Rattle.sp_meaning.specs.Run.{Store}
use Rattle.sp_meaning.specs.Turn as source
use Rattle.sp_code.specs.Machine.{Entry, Stop, Opens, Ends, Pauses, Config, At, Stops}
use Rattle.sp_code.specs.Machine.{next_step}
use Rattle.sp_code.specs.Memory.{Memory}
use Rattle.sp_code.specs.Turns.{RunsTo}
use Rattle.sp_code.specs.Scopes.{Channels, sort}
use Rattle.sp_codegen.specs.FramePairs.{FramePair}
use Rattle.sp_codegen.specs.Executions.{Execution}
use Rattle.sp_codegen.specs.CodePositions as positions
use Rattle.sp_codegen.specs.CodePositions.{CodeFollows, PayloadIs, IsOwned, Turned}

module _ (ex : Execution (Memory Plain)) where
  open ex use {
    run_input as g,
    code,
    who as w,
    IsReadable as R,
    operations as ops,
    relation as rel,
  }

  -- in no function
  abbrev pub ParallelStop : List FramePair → List Birth → Stop → Type 0
  ParallelStop frames bs stop = positions.ParallelStop ex true frames bs stop

  abbrev pub ForallStop : List FramePair → List Birth → Stop → Type 0
  ForallStop frames bs stop = positions.ForallStop ex true frames bs stop

  abbrev pub ForkStop : List FramePair → List Birth → Stop → Type 0
  ForkStop frames bs stop = positions.ForkStop ex true frames bs stop

  -- a turn that begins at this configuration, of a process whose code ends there, above these frames
  module _ (c : Config (Memory Plain)) (end : ℕ) (below : List FramePair) where
    -- `last` is where the instruction stands that stops it
    pub record AtPause (todo : List Item) (o : LocalState) (s : Store) : Type 0 where
      pub pc : ℕ
      pub stack : List Entry
      pub memory : Memory Plain
      pub frames : List FramePair
      pub last : Config (Memory Plain)
      pub comes : RunsTo ops code c last
      pub stops : next_step ops code last ≡ Stops Pauses (At pc stack memory)
      pub stand : rel.Agrees frames o s memory
      pub follows : CodeFollows ex end [] below pc stack frames todo

    pub record AtFork (bs : List Birth) (todo : List Item) (o : LocalState) (s : Store) : Type 0 where
      pub pc : ℕ
      pub stack : List Entry
      pub memory : Memory Plain
      pub frames : List FramePair
      pub last : Config (Memory Plain)
      pub stop : Stop
      pub comes : RunsTo ops code c last
      pub stops : next_step ops code last ≡ Stops stop (At pc stack memory)
      pub stand : rel.Agrees frames o s memory
      pub follows : CodeFollows ex end [] below pc stack frames todo
      pub forks : ForkStop frames bs stop
      pub may_nest : nat_lt o.depth g.limits.depth ≡ true

    pub record AtOffer (ch : Channel) (k : ℕ) (payload : Payload LocationContent Address) (todo : List Item)
        (o : LocalState) (s : Store) : Type 0 where
      pub pc : ℕ
      pub stack : List Entry
      pub memory : Memory Plain
      pub frames : List FramePair
      pub last : Config (Memory Plain)
      pub stop : Stop
      pub comes : RunsTo ops code c last
      pub stops : next_step ops code last ≡ Stops stop (At pc stack memory)
      pub stand : rel.Agrees frames o s memory
      pub carries : PayloadIs ex frames ch k payload stop
      pub follows : CodeFollows ex end [] below pc stack frames todo
      pub owned : IsOwned ops stop memory

    -- the store before it, and the variable that takes the channel
    pub record AtOpen (todo : List Item) (o : LocalState) (s : Store) : Type 0 where
      pub pc : ℕ
      pub stack : List Entry
      pub memory : Memory Plain
      pub frames : List FramePair
      pub last : Config (Memory Plain)
      pub variable : Address
      pub target : Ptr
      pub store : Store
      pub comes : RunsTo ops code c last
      pub stops : next_step ops code last ≡ Stops (Opens target) (At pc stack memory)
      pub stand : rel.Agrees frames o store memory
      pub points : rel.Points frames variable target
      pub readable : R variable.spot
      pub store_is : s ≡ at_key same_loc variable.spot
          (content_with variable (store variable.spot) (Tree (Chan (record { owner = w.name; nth = w.opens })))) store
      pub follows : CodeFollows ex end [] below pc stack frames todo
      pub sort_is : sort g.program variable.kind ≡ Channels

    pub record AtFinish (o : LocalState) (s : Store) : Type 0 where
      pub pc : ℕ
      pub stack : List Entry
      pub memory : Memory Plain
      pub frames : List FramePair
      pub comes : RunsTo ops code c (At pc stack memory)
      pub stops : next_step ops code (At pc stack memory) ≡ Stops Ends (At pc stack memory)
      pub stand : rel.Agrees frames o s memory
      pub frames_are : frames ≡ below

    pub to_pause : (todo : List Item) (o : LocalState) (s : Store)
        → Turned ex c end [] below (Computed (source.Paused todo) o, s) → AtPause todo o s
    to_pause todo o s (last, comes, k) = record {
      pc = k.pc;
      stack = k.stack;
      memory = k.memory;
      frames = k.frames;
      last = last;
      comes = comes;
      stops = k.stops;
      stand = k.stand;
      follows = k.follows;
    }

    pub to_fork : (bs : List Birth) (todo : List Item) (o : LocalState) (s : Store)
        → Turned ex c end [] below (Computed (source.Stops (Forked bs todo)) o, s) → AtFork bs todo o s
    to_fork bs todo o s (last, comes, k) = record {
      pc = k.pc;
      stack = k.stack;
      memory = k.memory;
      frames = k.frames;
      last = last;
      stop = k.stop;
      comes = comes;
      stops = k.stops;
      stand = k.stand;
      follows = k.follows;
      forks = subst (λ b. positions.ForkStop ex b k.frames bs k.stop) k.outside k.forks;
      may_nest = k.may_nest;
    }

    pub to_offer : (ch : Channel) (k : ℕ) (payload : Payload LocationContent Address) (todo : List Item)
        (o : LocalState)
        (s : Store) → Turned ex c end [] below (Computed (source.Stops (Offered ch k payload todo)) o, s)
        → AtOffer ch k payload todo o s
    to_offer ch kind payload todo o s (last, comes, k) = record {
      pc = k.pc;
      stack = k.stack;
      memory = k.memory;
      frames = k.frames;
      last = last;
      stop = k.stop;
      comes = comes;
      stops = k.stops;
      stand = k.stand;
      carries = k.carries;
      follows = k.follows;
      owned = k.owned;
    }

    pub to_open : (todo : List Item) (o : LocalState) (s : Store)
        → Turned ex c end [] below (Computed (source.Stops (Opened todo)) o, s) → AtOpen todo o s
    to_open todo o s (last, comes, k) = record {
      pc = k.pc;
      stack = k.stack;
      memory = k.memory;
      frames = k.frames;
      last = last;
      variable = k.variable;
      target = k.target;
      store = k.store;
      comes = comes;
      stops = k.stops;
      stand = k.stand;
      points = k.points;
      readable = k.readable;
      store_is = k.store_is;
      follows = k.follows;
      sort_is = k.sort_is;
    }

    pub to_finish : (o : LocalState) (s : Store)
        → Turned ex c end [] below (Computed (source.Stops Ended) o, s) → AtFinish o s
    to_finish o s (At pc st n, comes, k) =
        let (_, _, frames_are) = k.follows in
        record {
          pc = pc;
          stack = st;
          memory = n;
          frames = k.frames;
          comes = comes;
          stops = k.stops;
          stand = k.stand;
          frames_are = frames_are;
        }
