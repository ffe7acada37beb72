-- Whole runs of worked code, by the definitions: which event each process makes in turn, and what is written.
use Rattle.std.specs.Prelude.{◌≡◌, ℕ, pos, List, [], ◌∷◌, ◌++◌, Option, Some, None, false, refl}
use Rattle.sp_base.specs.declared.fault.Fault.TheVariants as fault
use Rattle.sp_journal.specs.declared.entry.Event.{Event}
use Rattle.sp_journal.specs.declared.entry.Event.TheVariants as event
use Rattle.sp_journal.specs.declared.entry.Note.{Note}
use Rattle.sp_code.specs.declared.instr.Instr.{Instr}
use Rattle.sp_code.specs.declared.instr.Instr.TheVariants as i
use Rattle.sp_code.specs.declared.code.ChildTable.{ChildTable}
use Rattle.sp_code.specs.declared.code.ForkTable.{ForkTable}
use Rattle.sp_code.specs.Turns.{Turn, TurnProgress, Ended, Lacks, GoesOn, turn_within}
use Rattle.sp_code.specs.Memory.{CodeRun, Memory, memory}
use Rattle.sp_code.specs.Control.{control, front, standing, Running, IsDone, IsDeadlock, IsFault, IsMemory}
use Rattle.sp_code.specs.System.{System, Condition, Absent, Working, Waits, Joins, Laid, Gone, Over, event_of}
use Rattle.sp_code.specs.System.{system_after_turn}
use Rattle.sp_code.specs.System.{opening_system}
use Rattle.sp_code.proofs.Small.{Small, small, wide, written}

-- ---- a run, by the processes that make the entries

module _ (g : CodeRun) where
  abbrev after_turn : (System Small → List Event × List ℕ) → ℕ → System Small → Turn (Memory Small) → List Event
      × List ℕ
  after_turn go q m t = let r = go (system_after_turn small g q t m) in (event_of g.limits m t ∷ r.0, r.1)

  abbrev by_turn : (System Small → List Event × List ℕ) → ℕ → System Small → TurnProgress (Memory Small)
      → List Event × List ℕ
  by_turn go q m (Ended t) = after_turn go q m t
  by_turn go q m (Lacks c) = ([], [])
  by_turn go q m (GoesOn c) = ([], [])

  -- a process that does not run makes no entry, and nothing more is told
  abbrev by_condition : (System Small → List Event × List ℕ) → ℕ → System Small → Condition Small → List Event × List ℕ
  by_condition go q m (Working c) = by_turn go q m (turn_within (memory small g) g.code 100 c)
  by_condition _ _ _ _ = ([], [])

  -- what the root's store has of the output in the end
  abbrev output_in : Condition Small → List ℕ
  output_in Absent = []
  output_in (Working c) = written c
  output_in (Waits stop c) = written c
  output_in (Joins left c) = written c
  output_in (Laid c) = written c
  output_in Gone = []
  output_in (Over c) = written c

  abbrev told_from : List ℕ → System Small → List Event × List ℕ
  told_from [] m = ([], output_in (m.condition 0))
  told_from (q ∷ qs) m = by_condition (told_from qs) q m (m.condition q)

  -- the events that these processes make, one after the other, and the output
  abbrev told : List ℕ → List Event × List ℕ
  told qs = told_from qs (opening_system small g)

abbrev of : List Instr → List ForkTable → List ℕ → List ℕ → CodeRun
of is forks sizes variables = record {
  code = record {
    instrs = is;
    layouts = record {
      block = 0;
      entry = 0;
      parent = None;
      answer = false;
      sizes = sizes;
      variables = variables;
      formals = [];
    } ∷ [];
    forks = forks;
    texts = [];
  };
  input = [];
  limits = wide;
  pause = 100000;
}

abbrev child : ℕ → List ℕ → List ℕ → ChildTable
child entry moved shared = record { entry = entry; moved = moved; shared = shared; index = None }

-- open(c); parallel send(c, 1) | receive(c, x) end; write(x)
abbrev rendezvous : CodeRun
rendezvous = of
    (i.Addr 0 2 ∷ i.Open ∷ i.Fork 0 ∷ i.Jump 14 ∷ i.Addr 0 2 ∷ i.Loadc ∷ i.Const (pos 1) ∷ i.Send 0 ∷ i.End ∷ i.Addr 0 2
    ∷ i.Loadc ∷ i.Addr 0 3 ∷ i.Receive 0 ∷ i.End ∷ i.Addr 0 3 ∷ i.Load ∷ i.WriteChar ∷ i.End ∷ [])
    (record { children = child 4 [] (2 ∷ []) ∷ child 9 (3 ∷ []) (2 ∷ []) ∷ [] } ∷ []) (1 ∷ 1 ∷ []) (2 ∷ 3 ∷ [])

meets : told rendezvous (0 ∷ 0 ∷ 1 ∷ 2 ∷ 1 ∷ 2 ∷ 0 ∷ [])
    ≡ (event.Open ∷ event.Fork 2 ∷ event.Send 0 ∷ event.Receive 0 ∷ event.End ∷ event.End ∷ event.End ∷ [], 1 ∷ [])
meets = refl

-- the same the other way round: the receiver waits
meets_a_receiver : told rendezvous (0 ∷ 0 ∷ 2 ∷ 1 ∷ 2 ∷ 1 ∷ 0 ∷ [])
    ≡ (event.Open ∷ event.Fork 2 ∷ event.Receive 0 ∷ event.Send 0 ∷ event.End ∷ event.End ∷ event.End ∷ [], 1 ∷ [])
meets_a_receiver = refl

-- a process that joins or waits makes no entry
waits : told rendezvous (0 ∷ 0 ∷ 0 ∷ []) ≡ (event.Open ∷ event.Fork 2 ∷ [], [])
waits = refl

-- limits of totals
too_many_entries : told (record rendezvous { limits = record wide { entries = 2 } }) (0 ∷ 0 ∷ 1 ∷ 2 ∷ [])
    ≡ (event.Open ∷ event.Fork 2 ∷ event.Fault fault.F15 ∷ event.Laid ∷ [], [])
too_many_entries = refl

too_many_processes : told (record rendezvous { limits = record wide { processes = 2 } }) (0 ∷ 0 ∷ [])
    ≡ (event.Open ∷ event.Fault fault.F13 ∷ [], [])
too_many_processes = refl

too_many_channels : told (record rendezvous { limits = record wide { channels = 0 } }) (0 ∷ [])
    ≡ (event.Fault fault.F14 ∷ [], [])
too_many_channels = refl

too_deep : told (record rendezvous { limits = record wide { depth = 0 } }) (0 ∷ 0 ∷ [])
    ≡ (event.Open ∷ event.Fault fault.F11 ∷ [], [])
too_deep = refl

-- open(c); parallel send(c, 1) | send(c, 2) end: the second one contends; and what came back after it is laid down
abbrev contention : CodeRun
contention = of
    (i.Addr 0 2 ∷ i.Open ∷ i.Fork 0 ∷ i.Jump 14 ∷ i.Addr 0 2 ∷ i.Loadc ∷ i.Const (pos 1) ∷ i.Send 0 ∷ i.End ∷ i.Addr 0 2
    ∷ i.Loadc ∷ i.Const (pos 2) ∷ i.Send 0 ∷ i.End ∷ i.End ∷ [])
    (record { children = child 4 [] (2 ∷ []) ∷ child 9 [] (2 ∷ []) ∷ [] } ∷ []) (1 ∷ []) (2 ∷ [])

contends : told contention (0 ∷ 0 ∷ 1 ∷ 2 ∷ [])
    ≡ (event.Open ∷ event.Fork 2 ∷ event.Send 0 ∷ event.Fault fault.F6 ∷ [], [])
contends = refl

-- another message type
abbrev mismatch : CodeRun
mismatch = of
    (i.Addr 0 2 ∷ i.Open ∷ i.Fork 0 ∷ i.Jump 14 ∷ i.Addr 0 2 ∷ i.Loadc ∷ i.Const (pos 1) ∷ i.Send 0 ∷ i.End ∷ i.Addr 0 2
    ∷ i.Loadc ∷ i.Addr 0 3 ∷ i.Receive 1 ∷ i.End ∷ i.End ∷ [])
    (record { children = child 4 [] (2 ∷ []) ∷ child 9 (3 ∷ []) (2 ∷ []) ∷ [] } ∷ []) (1 ∷ 1 ∷ []) (2 ∷ 3 ∷ [])

differs : told mismatch (0 ∷ 0 ∷ 1 ∷ 2 ∷ [])
    ≡ (event.Open ∷ event.Fork 2 ∷ event.Send 0 ∷ event.Fault fault.F7 ∷ [], [])
differs = refl

-- forall k := 1 to 2 do assume k = 1: each child has its own index
abbrev indexed : CodeRun
indexed = of
    (i.Const (pos 1) ∷ i.Const (pos 2) ∷ i.Forall 0 ∷ i.Jump 9 ∷ i.Addr 0 0 ∷ i.Load ∷ i.Const (pos 1) ∷ i.Eq ∷ i.Assume
    ∷ i.End ∷ [])
    (record { children = record { entry = 4; moved = []; shared = []; index = Some 2 } ∷ [] } ∷ []) [] []

each_has_its_index : told indexed (0 ∷ 1 ∷ 2 ∷ []) ≡ (event.Fork 2 ∷ event.End ∷ event.Fault fault.F8 ∷ [], [])
each_has_its_index = refl

-- an empty range goes on behind the forall
abbrev empty_range : CodeRun
empty_range = of (i.Const (pos 1) ∷ i.Const (pos 0) ∷ i.Forall 0 ∷ i.Jump 4 ∷ i.End ∷ [])
    (record { children = record { entry = 4; moved = []; shared = []; index = Some 2 } ∷ [] } ∷ []) [] []

does_nothing : told empty_range (0 ∷ []) ≡ (event.End ∷ [], [])
does_nothing = refl

-- ---- control

abbrev note : ℕ → Option ℕ → Option Event → Option ℕ → Note
note w given e got = record { worker = w; given = given; event = e; got = got }

-- one worker on the rendezvous: what waited becomes ready before what came
abbrev notes : List Note
notes = note 0 None None (Some 0) ∷ note 0 (Some 0) (Some event.Open) (Some 0)
    ∷ note 0 (Some 0) (Some (event.Fork 2)) (Some 1) ∷ note 0 (Some 1) (Some (event.Send 0)) (Some 2)
    ∷ note 0 (Some 2) (Some (event.Receive 0)) (Some 1) ∷ []

then_the_receiver : front (control notes) ≡ Some 2
then_the_receiver = refl

still_running : standing (control notes) ≡ Running
still_running = refl

done : standing (control (notes ++ note 0 (Some 1) (Some event.End) (Some 2) ∷ note 0 (Some 2) (Some event.End) (Some 0)
    ∷ note 0 (Some 0) (Some event.End) None ∷ [])) ≡ IsDone
done = refl

-- after the last child the parent is ready, and nobody else
parent_goes_on : front (control (notes ++ note 0 (Some 1) (Some event.End) (Some 2)
    ∷ note 1 (Some 2) (Some event.End) None ∷ [])) ≡ Some 0
parent_goes_on = refl

deadlock : standing (control (note 0 None None (Some 0) ∷ note 0 (Some 0) (Some event.Open) (Some 0)
    ∷ note 0 (Some 0) (Some (event.Receive 0)) None ∷ [])) ≡ IsDeadlock
deadlock = refl

-- no deadlock while a process is out
not_yet : standing (control (note 0 None None (Some 0) ∷ [])) ≡ Running
not_yet = refl

-- after a fault nothing is taken, and an abandon stands before all
fault_stands : standing (control (note 0 None None (Some 0) ∷ note 0 (Some 0) (Some (event.Fault fault.F2)) None ∷ []))
    ≡ IsFault
fault_stands = refl

nothing_is_taken : front (control (note 0 None None (Some 0) ∷ note 0 (Some 0) (Some (event.Fork 2)) (Some 1)
    ∷ note 0 (Some 1) (Some (event.Fault fault.F2)) None ∷ [])) ≡ None
nothing_is_taken = refl

given_up : standing (control (note 0 None None (Some 0) ∷ note 0 (Some 0) None None ∷ [])) ≡ IsMemory
given_up = refl

-- a pause goes to the back of the queue
behind_the_others : front (control (note 0 None None (Some 0) ∷ note 0 (Some 0) (Some (event.Fork 2)) (Some 1)
    ∷ note 0 (Some 1) (Some event.Pause) None ∷ [])) ≡ Some 2
behind_the_others = refl
