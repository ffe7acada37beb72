-- None of this belongs to what the program promises: it is for contracts between crates.
-- What a fork does to the kernel. The contracts of `fork` cite it; that it is a legal step of the control and the
-- system is proved from it.
use Rattle.std.specs.Prelude.{◌≡◌, ℕ, ℤ, Bool, nat_lt, ◌+◌, ◌-◌, List, [], ◌∷◌, ◌++◌, length, Some, slice_get}
use Rattle.std.specs.Prelude.{slice_set}
use Rattle.sp_journal.specs.declared.entry.Event.TheVariants as event
use Rattle.sp_journal.specs.Queue.{numbers}
use Rattle.sp_code.specs.PlainStore.{plain}
use Rattle.sp_code.specs.System.{on_store, process_at_entry, table_or}
use Rattle.sp_machine.specs.declared.state.State.{State as Proc}
use Rattle.sp_machine.specs.declared.state.Stop.{Stop}
use Rattle.sp_machine.specs.declared.state.Stop.TheVariants as stop
use Rattle.sp_machine.specs.Children.{AreNewborn, plan_by}
use Rattle.sp_kernel.specs.declared.slot.Slot.{Slot}
use Rattle.sp_kernel.specs.declared.slot.Slot.TheVariants as slot
use Rattle.sp_kernel.specs.declared.slot.State.TheVariants as st
use Rattle.sp_kernel.specs.declared.kernel.Kernel.{Kernel}
use Rattle.sp_kernel.specs.ListEnds.{repeat}
use Rattle.sp_kernel.specs.Seats.{Seated}
use Rattle.sp_kernel.specs.Procs.{config_of}

-- n processes more would be too many
abbrev pub exceeds : Kernel → ℕ → Bool
exceeds x n = nat_lt x.limits.processes (length x.slots + n)

-- there is room for n children of p
abbrev pub with_room_for : ℕ → ℕ → Kernel → Kernel
with_room_for p n x = record x {
  slots = x.slots ++ repeat n slot.Ended;
  parents = x.parents ++ repeat n (Some p);
  ready = x.ready ++ numbers (length x.slots) n;
  journal = record { entries = x.journal.entries ++ record { process = p; event = event.Fork n } ∷ [] };
}

-- the parent after it, and the children in these slots
abbrev pub kernel_after_fork : Proc → ℕ → List Slot → Kernel → Kernel
kernel_after_fork p n slots x = record x {
  slots = slice_set slots p.number (slot.Here p (st.Joining n));
  parents = x.parents ++ repeat n (Some p.number);
  ready = x.ready ++ numbers (length x.slots) n;
  journal = record { entries = x.journal.entries ++ record { process = p.number; event = event.Fork n } ∷ [] };
  out = x.out - 1;
  entries = x.entries + 1;
}

-- from here on its ticks count for the next pause, and it has handed over what the fork hands over
abbrev pub HandsOver : Kernel → Proc → ℕ → Proc → Type 0
HandsOver x p n q = (config_of q ≡ on_store (λ m. plain.handed m (plan_by x.code.value p n))
    (process_at_entry (config_of p))) × (q.number ≡ p.number) × (q.input.value ≡ p.input.value)

-- the process p forked n children
pub record HasForked (x : Kernel) (p : Proc) (n : ℕ) (y : Kernel) : Type 0 where
  pub parent : Proc
  pub hands : HandsOver x p n parent
  pub children : List Proc
  pub born : AreNewborn x.code.value p (table_or (slice_get x.code.value.forks p.table)) (length x.slots) n children
  pub slots : List Slot
  pub seated : Seated (x.slots ++ repeat n slot.Ended) (length x.slots) children slots
  pub kernel_is : y ≡ kernel_after_fork parent n slots x

-- a stop at a fork of n children
abbrev pub IsForkOf : Stop → ℕ → Type 0
IsForkOf s n = (t : ℕ) × (v : ℤ) × (s ≡ stop.Fork t v n)
