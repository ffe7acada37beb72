-- None of this belongs to what the program promises: it is for contracts between crates.
-- The control of the kernel, as a function of the notes of a run: who is ready, out, waiting, joining, laid or ended.
-- The kernel's contracts lead its tables to it, and the laws of histories speak of it alone.
use Rattle.std.specs.Prelude.{ℕ, ◌+◌, ◌-◌, ◌==◌, List, [], ◌∷◌, ◌++◌, Option, Some, None, Bool, true, false, ◌||◌}
use Rattle.std.specs.Prelude.{if◌then◌else◌, cond, nat_lt}
use Rattle.sp_journal.specs.declared.entry.Way.{Way}
use Rattle.sp_journal.specs.declared.entry.Way.TheVariants as way
use Rattle.sp_journal.specs.declared.entry.Event.{Event}
use Rattle.sp_journal.specs.declared.entry.Event.TheVariants as event
use Rattle.sp_journal.specs.declared.entry.Entry.{Entry}
use Rattle.sp_journal.specs.declared.entry.Birth.{Birth}
use Rattle.sp_journal.specs.declared.entry.Note.{Note}
use Rattle.sp_journal.specs.Maps.{at_key}
use Rattle.sp_journal.specs.Births.{Births, first_births, births_after_event, is_next}
use Rattle.sp_journal.specs.Queue.{numbers}

-- what a process is doing; one that an abandoning worker had is none of the others any more
pub data Doing : Type 0 where
  Unborn : Doing
  Ready : Doing
  Out : (worker : ℕ) → Doing
  Sending : (channel : ℕ) → Doing
  Receiving : (channel : ℕ) → Doing
  Joining : (left : ℕ) → Doing
  Laid : Doing
  Ended : Doing
  Gone : Doing

-- what each process is doing; the ready ones, the oldest first; how many are out; the way and process of the offer that
-- is pending on each channel; what the events have given to processes and channels; whether a fault stands; the number
-- of abandons
pub record Control : Type 0 where
  pub doing : ℕ → Doing
  pub ready : List ℕ
  pub out : ℕ
  pub pending : ℕ → Option (Way × ℕ)
  pub births : Births
  pub faulted : Bool
  pub abandons : ℕ

-- the root alone is ready
abbrev pub control_at_start : Control
control_at_start = record {
  doing = λ p. if p == 0 then Ready else Unborn;
  ready = 0 ∷ [];
  out = 0;
  pending = λ c. None;
  births = first_births;
  faulted = false;
  abandons = 0;
}

-- process p does this
abbrev pub does : ℕ → Doing → Control → Control
does p d k = record k { doing = at_key ◌==◌ p d k.doing }

-- p goes to the back of the queue
abbrev pub queues : ℕ → Control → Control
queues p k = record k { doing = at_key ◌==◌ p Ready k.doing; ready = k.ready ++ p ∷ [] }

-- an offer waits; or it meets, and then who waited becomes ready before who came
abbrev pub offers : Way → Doing → ℕ → ℕ → Option (Way × ℕ) → Control → Control
offers w waits p c None k = record k {
  doing = at_key ◌==◌ p waits k.doing;
  pending = at_key ◌==◌ c (Some (w, p)) k.pending;
}
offers w waits p c (Some z) k = queues p (queues z.1 (record k { pending = at_key ◌==◌ c None k.pending }))

-- one child fewer is awaited; after the last one the parent becomes ready
abbrev pub one_fewer : ℕ → Doing → Control → Control
one_fewer p (Joining left) k = if left == 1 then queues p k else does p (Joining (left - 1)) k
one_fewer _ _ k = k

-- the parent of who ended waits for a child fewer
abbrev pub reports : Option Birth → Control → Control
reports None k = k
reports (Some b) k = one_fewer b.parent (k.doing b.parent) k

-- the n children of p become ready in order, and p joins them
abbrev pub forks : ℕ → ℕ → Control → Control
forks p n k = record k {
  doing = λ q. cond (is_next k.births n q) Ready (cond (p == q) (Joining n) (k.doing q));
  ready = k.ready ++ numbers k.births.processes n;
}

-- this event of process p, which was out
abbrev pub happens : ℕ → Event → Control → Control
happens p (event.Fork n) k = forks p n k
happens p event.Open k = queues p k
happens p (event.Send c) k = offers way.Send (Sending c) p c (k.pending c) k
happens p (event.Receive c) k = offers way.Receive (Receiving c) p c (k.pending c) k
happens p event.End k = reports (k.births.birth p) (does p Ended k)
happens p (event.Fault f) k = record (does p Laid k) { faulted = true }
happens p event.Laid k = does p Laid k
happens p event.Pause k = queues p k

-- process p comes back with this event
abbrev pub comes_back : ℕ → Event → Control → Control
comes_back p e k = let after = happens p e k in
    record after { out = k.out - 1; births = births_after_event k.births p e }

-- a worker gives up, with the process that it had, if any
abbrev pub abandons : Option ℕ → Control → Control
abandons None k = record k { abandons = k.abandons + 1 }
abandons (Some p) k = record (does p Gone k) { out = k.out - 1; abandons = k.abandons + 1 }

-- the front of the queue goes out with a worker
abbrev pub queue_tail : List ℕ → List ℕ
queue_tail [] = []
queue_tail (p ∷ ps) = ps

-- a worker takes a process
abbrev pub takes : ℕ → Option ℕ → Control → Control
takes worker None k = k
takes worker (Some p) k = record k {
  doing = at_key ◌==◌ p (Out worker) k.doing;
  ready = queue_tail k.ready;
  out = k.out + 1;
}

-- what a note says, one part at a time: a process given with its event, or an abandon, which has neither event nor
-- process got
abbrev pub after_give : Option ℕ → Option Event → Option ℕ → Control → Control
after_give (Some p) (Some e) got k = comes_back p e k
after_give None (Some e) got k = k
after_give p None None k = abandons p k
after_give p None (Some q) k = k

-- after a note
abbrev pub after_note : Note → Control → Control
after_note n k = takes n.worker n.got (after_give n.given n.event n.got k)

-- after all these notes
abbrev pub after_notes : List Note → Control → Control
after_notes [] k = k
after_notes (n ∷ ns) k = after_notes ns (after_note n k)

-- the control after these notes
abbrev pub control : List Note → Control
control ns = after_notes ns control_at_start

-- ---- what can be told of it

-- how a run stands
pub data Standing : Type 0 where
  Running : Standing
  IsDone : Standing
  IsDeadlock : Standing
  IsFault : Standing
  IsMemory : Standing

abbrev pub has_ended : Doing → Bool
has_ended Ended = true
has_ended _ = false

abbrev pub is_ready : List ℕ → Bool
is_ready [] = false
is_ready (p ∷ ps) = true

-- an abandon stands before all others; then a fault; then the end of the root; a deadlock is where nothing is ready or
-- out
abbrev pub standing : Control → Standing
standing k =
    if nat_lt 0 k.abandons then IsMemory else (
    if k.faulted then IsFault else (
    if has_ended (k.doing 0) then IsDone else (
    if is_ready k.ready || nat_lt 0 k.out then Running else IsDeadlock)))

abbrev pub front_of : List ℕ → Option ℕ
front_of [] = None
front_of (p ∷ ps) = Some p

-- the next process, while the run goes on
abbrev pub front_while : Standing → List ℕ → Option ℕ
front_while Running ps = front_of ps
front_while _ _ = None

-- the process that is taken next, if one can be
abbrev pub front : Control → Option ℕ
front k = front_while (standing k) k.ready

-- the entries of the notes that have an event
abbrev pub entry_of : Option ℕ → Option Event → List Entry
entry_of (Some p) (Some e) = record { process = p; event = e } ∷ []
entry_of None (Some e) = []
entry_of p None = []

abbrev pub entries_of : List Note → List Entry
entries_of [] = []
entries_of (n ∷ ns) = entry_of n.given n.event ++ entries_of ns
