-- None of this belongs to what the program promises: it is for contracts between crates.
-- How the system of a program's code stands at an end: who waits, where nobody can go on, and which entry is a fault.
-- The laws of this crate lead it to the meaning's ends, and the runner's end to it.
use Rattle.std.specs.Prelude.{◌≡◌, ◌⊎◌, ℕ, zero, suc, List, [], ◌∷◌, map, Option, Some, None, false}
use Rattle.std.specs.List.Sorted.{IsPermutation, IsSortedByKey}
use Rattle.sp_base.specs.Order.{name_cmp}
use Rattle.sp_base.specs.declared.fault.Fault.{Fault}
use Rattle.sp_cell.specs.declared.cell.Cell.{Cell}
use Rattle.sp_cell.specs.declared.spot.Address.{Address}
use Rattle.sp_cell.specs.Map.{Plain}
use Rattle.sp_journal.specs.declared.entry.Way.TheVariants as way
use Rattle.sp_journal.specs.declared.entry.Event.TheVariants as event
use Rattle.sp_journal.specs.declared.entry.Entry.{Entry}
use Rattle.sp_journal.specs.declared.entry.Note.{Note}
use Rattle.sp_journal.specs.declared.outcome.Waiter.{Waiter}
use Rattle.sp_journal.specs.declared.outcome.End.{End}
use Rattle.sp_journal.specs.declared.outcome.End.TheVariants as end
use Rattle.sp_journal.specs.Births.{Births, births, channel}
use Rattle.sp_journal.specs.Names.{proc_name}
use Rattle.sp_meaning.specs.Ends.{Waiting, IsIn, IsSorted, waiter_of}
use Rattle.sp_code.specs.Control.{Control, Doing, Sending, Receiving}
use Rattle.sp_code.specs.Control.{control, standing, IsDone, IsDeadlock, IsFault, entries_of}
use Rattle.sp_code.specs.Machine.{Stop, Sends, Receives, Config}
use Rattle.sp_code.specs.Memory.{Memory}
use Rattle.sp_code.specs.System.{System, Working, Waits, Over, pending_stop}

-- among these entries process p has the fault f
abbrev pub HasFaultEntry : List Entry → ℕ → Fault → Type 0
HasFaultEntry [] p f = ⊥
HasFaultEntry (e ∷ es) p f = (e ≡ record { process = p; event = event.Fault f }) ⊎ HasFaultEntry es p f

-- how a process waits at a stop, by its name and the channel's
abbrev pub waiting_at : Births → ℕ → Stop → Option Waiting
waiting_at b i (Sends c k cs) = Some (record { who = b.name i; way = way.Send; channel = channel b c })
waiting_at b i (Receives c k a) = Some (record { who = b.name i; way = way.Receive; channel = channel b c })
waiting_at _ _ _ = None

-- a process of the system waits so
pub record WaitsAs (t : System Plain) (w : Waiting) : Type 0 where
  pub number : ℕ
  pub stop : Stop
  pub configuration : Config (Memory Plain)
  pub waits : t.condition number ≡ Waits stop configuration
  pub waiting_is : waiting_at t.births number stop ≡ Some w

-- nobody runs, the first process has not ended and no fault stands; the list is every process that waits, in order of
-- names
pub record IsStuck (t : System Plain) (ws : List Waiting) : Type 0 where
  pub no_fault : t.faulted ≡ false
  pub idle : (i : ℕ) (d : Config (Memory Plain)) → t.condition i ≡ Working d → ⊥
  pub goes_on : (d : Config (Memory Plain)) → t.condition 0 ≡ Over d → ⊥
  pub sorted : IsSorted ws
  pub only : (w : Waiting) → IsIn w ws → WaitsAs t w
  pub whole : (w : Waiting) → WaitsAs t w → IsIn w ws

-- in the control of the kernel a process waits so
abbrev pub IsWaiting : Control → Waiting → Type 0
IsWaiting k w =
    (i : ℕ) × (c : ℕ)
    × (((k.doing i ≡ Sending c) × (w ≡ record { who = k.births.name i; way = way.Send; channel = channel k.births c }))
    ⊎ ((k.doing i ≡ Receiving c) × (w ≡ record {
      who = k.births.name i;
      way = way.Receive;
      channel = channel k.births c;
    })))

-- the list is every process that waits, in order of names
pub record AreAllWaiting (k : Control) (ws : List Waiting) : Type 0 where
  pub sorted : IsSorted ws
  pub only : (w : Waiting) → IsIn w ws → IsWaiting k w
  pub whole : (w : Waiting) → IsWaiting k w → IsIn w ws

-- process q waits, if it does so, before others
abbrev pub with_waiting : Births → ℕ → Doing → List Waiting → List Waiting
with_waiting b q (Sending c) ws = record { who = b.name q; way = way.Send; channel = channel b c } ∷ ws
with_waiting b q (Receiving c) ws = record { who = b.name q; way = way.Receive; channel = channel b c } ∷ ws
with_waiting _ _ _ ws = ws

-- who waits of process q and the n - 1 following ones
abbrev pub waiting_from : Control → ℕ → ℕ → List Waiting
waiting_from k q zero = []
waiting_from k q (suc n) = with_waiting k.births q (k.doing q) (waiting_from k (suc q) n)

-- all that wait, in order of names
pub record AreWaiters (k : Control) (ws : List Waiter) : Type 0 where
  pub all : IsPermutation (map waiter_of (waiting_from k 0 k.births.processes)) ws
  pub sorted : IsSortedByKey (λ (w : Waiter). w.process) name_cmp ws

-- the control of these notes stands at this end, as the program tells it
abbrev pub ControlEndsAt : List Note → End → Type 0
ControlEndsAt ns end.Done = standing (control ns) ≡ IsDone
ControlEndsAt ns (end.Deadlock ws) = (standing (control ns) ≡ IsDeadlock) × AreWaiters (control ns) ws
ControlEndsAt ns (end.Fault name f) = (standing (control ns) ≡ IsFault)
    × ((p : ℕ) × HasFaultEntry (entries_of ns) p f × (name ≡ proc_name ((births (entries_of ns)).name p)))
ControlEndsAt ns end.Memory = ⊥

-- an offer at this stop meets a pending one of its own way
abbrev pub MeetsItsWay : System Plain → Stop → Type 0
MeetsItsWay t (Sends c k cs) = (d j : ℕ) × (ds : List Cell) × (pending_stop t (t.pending c) ≡ Some (Sends d j ds))
MeetsItsWay t (Receives c k a) = (d j : ℕ) × (b : Address) × (pending_stop t (t.pending c) ≡ Some (Receives d j b))
MeetsItsWay _ _ = ⊥
