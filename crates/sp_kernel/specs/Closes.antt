-- None of this belongs to what the program promises: it is for contracts between crates.
-- How a run ends, and what is left of it. The contract of `close` promises it, from the notes of the room and the
-- kernel that was left.
use Rattle.std.specs.Prelude.{◌≡◌, ◌<◌, ℕ, suc, List, [], ◌∷◌, Option, Some, None}
use Rattle.std.specs.List.Sorted.{IsPermutation, IsSortedByKey}
use Rattle.sp_base.specs.Order.{name_cmp}
use Rattle.sp_cell.specs.Map.{Plain}
use Rattle.sp_journal.specs.declared.entry.Note.{Note}
use Rattle.sp_journal.specs.declared.entry.Way.{Way}
use Rattle.sp_journal.specs.declared.entry.Way.TheVariants as way
use Rattle.sp_journal.specs.declared.outcome.End.{End}
use Rattle.sp_journal.specs.declared.outcome.End.TheVariants as end
use Rattle.sp_journal.specs.declared.outcome.Waiter.{Waiter}
use Rattle.sp_journal.specs.Births.{Births, births, channel, first_births, NameableFrom}
use Rattle.sp_journal.specs.Names.{proc_name, chan_name}
use Rattle.sp_code.specs.PlainStore.{plain}
use Rattle.sp_code.specs.Control.{Out, Gone, standing, entries_of, Running, IsDone, IsDeadlock, IsFault, IsMemory}
use Rattle.sp_code.specs.System.{store_in}
use Rattle.sp_code.specs.Agreement.{IsOver}
use Rattle.sp_code.specs.NamesChannels.{NamesChannels}
use Rattle.sp_room.specs.History.{LeadsTo}
use Rattle.sp_kernel.specs.declared.slot.Slot.{Slot}
use Rattle.sp_kernel.specs.declared.slot.Slot.TheVariants as slot
use Rattle.sp_kernel.specs.declared.slot.State.TheVariants as st
use Rattle.sp_kernel.specs.declared.kernel.Kernel.{Kernel}
use Rattle.sp_kernel.specs.Kernels.{control_of, system_of, IsKernel}
use Rattle.sp_kernel.specs.Faults.{fault_in, is_there}
use Rattle.sp_kernel.specs.Asks.{IsOpening, KernelSteps}

-- ---- who waits

-- process q waits so
abbrev pub waiter_of : Births → ℕ → Way → ℕ → Waiter
waiter_of b q w c = record { process = proc_name (b.name q); way = w; channel = chan_name (channel b c) }

-- the process in a slot, if it waits, before others
abbrev pub with_waiter : Births → ℕ → Slot → List Waiter → List Waiter
with_waiter b q (slot.Here p (st.Sending c k cs)) ws = waiter_of b q way.Send c ∷ ws
with_waiter b q (slot.Here p (st.Receiving c k)) ws = waiter_of b q way.Receive c ∷ ws
with_waiter _ _ _ ws = ws

-- those that wait in these slots, which are those of process q and of the following ones
abbrev pub waiters_from : Births → ℕ → List Slot → List Waiter
waiters_from b q [] = []
waiters_from b q (s ∷ ss) = with_waiter b q s (waiters_from b (suc q) ss)

-- who waits in a slot waits on one of so many channels
abbrev pub SpeaksBelow : ℕ → Slot → Type 0
SpeaksBelow n (slot.Here p (st.Sending c k cs)) = c < n
SpeaksBelow n (slot.Here p (st.Receiving c k)) = c < n
SpeaksBelow _ _ = Unit {0}

-- those that wait, in the order of their names
abbrev pub AreByName : List Waiter → Type 0
AreByName ws = IsSortedByKey (λ (w : Waiter). w.process) name_cmp ws

-- all that wait, in order of names
pub record AreWaiters (y : Kernel) (ws : List Waiter) : Type 0 where
  pub all : IsPermutation (waiters_from (births y.journal.entries) 0 y.slots) ws
  pub sorted : AreByName ws

-- the run stands at this end
abbrev pub EndIs : Kernel → End → Type 0
EndIs y end.Done = standing (control_of y) ≡ IsDone
EndIs y (end.Deadlock ws) = (standing (control_of y) ≡ IsDeadlock) × AreWaiters y ws
EndIs y (end.Fault name f) = (standing (control_of y) ≡ IsFault) × (p : ℕ) × (fault_in y.journal.entries ≡ Some (p, f))
    × (name ≡ proc_name ((births y.journal.entries).name p))
EndIs y end.Memory = standing (control_of y) ≡ IsMemory

-- it stands at this end, or goes on
abbrev pub KernelEndsAs : Kernel → Option End → Type 0
KernelEndsAs y None = standing (control_of y) ≡ Running
KernelEndsAs y (Some e) = EndIs y e

-- what its journal and its tables name is there, and a fault stands exactly where the journal has its entry
pub record IsNameableKernel (y : Kernel) : Type 0 where
  pub whole : IsKernel y
  pub nameable : NameableFrom first_births y.journal.entries
  pub fault_has_entry : y.faulted ≡ is_there (fault_in y.journal.entries)
  pub spoken : NamesChannels (system_of y)

-- ---- the output

-- a process that the kernel has holds this output
abbrev pub HeldHere : Kernel → List ℕ → Type 0
HeldHere y bs = (q : ℕ) × (m : Plain) × (((w : ℕ) → (control_of y).doing q ≡ Out w → ⊥)
    × ((control_of y).doing q ≡ Gone → ⊥)) × (store_in ((system_of y).condition q) ≡ Some m)
    × (plain.output m ≡ Some bs)

-- an output, or nothing
abbrev pub or_empty : Option (List ℕ) → List ℕ
or_empty None = []
or_empty (Some bs) = bs

-- ---- a run that is over

-- the run of x came to its end after these notes, and nothing is out
pub record RanTo (x : Kernel) (log : List Note) (y : Kernel) : Type 0 where
  pub legal : LeadsTo KernelSteps x log y
  pub over : IsOver (control_of y)
  pub journal : y.journal.entries ≡ entries_of log

-- a run that was opened came to its end after these notes
abbrev pub RanFrom : List Note → Kernel → Type 0
RanFrom log y = (x : Kernel) × IsOpening x × RanTo x log y
