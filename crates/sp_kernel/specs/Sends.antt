-- None of this belongs to what the program promises: it is for contracts between crates.
-- What an offer to send does to the kernel. The contracts of `send` cite it; that it is a legal step of the control
-- and the system is proved from it.
use Rattle.std.specs.Prelude.{◌≡◌, ℕ, ◌+◌, ◌-◌, List, [], ◌∷◌, ◌++◌, Option, Some, None, slice_get, slice_set}
use Rattle.sp_cell.specs.declared.cell.Cell.{Cell}
use Rattle.sp_journal.specs.declared.entry.Way.TheVariants as way
use Rattle.sp_journal.specs.declared.entry.Event.TheVariants as event
use Rattle.sp_kernel.specs.declared.slot.Slot.{Slot}
use Rattle.sp_kernel.specs.declared.slot.Slot.TheVariants as slot
use Rattle.sp_kernel.specs.declared.slot.State.TheVariants as st
use Rattle.sp_machine.specs.declared.state.State.{State as Proc}
use Rattle.sp_kernel.specs.declared.kernel.Kernel.{Kernel}
use Rattle.sp_code.specs.Memory.{put_cells}
use Rattle.sp_code.specs.PlainStore.{plain}
use Rattle.sp_code.specs.System.{on_store}
use Rattle.sp_kernel.specs.Procs.{CanTake, EntersAs, config_of}
use Rattle.sp_kernel.specs.Kernels.{kernel_after_give}

-- it waits
abbrev pub waits_to_send : Proc → ℕ → ℕ → List Cell → Kernel → Kernel
waits_to_send p c k cs x = record (kernel_after_give p.number (event.Send c) (slot.Here p (st.Sending c k cs)) x) {
  channels = slice_set x.channels c (Some (record { way = way.Send; process = p.number; message = k }));
  entries = x.entries + 1;
}

-- it meets: the receiver z is now r
abbrev pub meets_sending : Proc → Proc → ℕ → ℕ → Kernel → Kernel
meets_sending p r c z x = record x {
  slots = slice_set (slice_set x.slots z (slot.Here r st.Ready)) p.number (slot.Here p st.Ready);
  ready = (x.ready ++ z ∷ []) ++ p.number ∷ [];
  journal = record { entries = x.journal.entries ++ record { process = p.number; event = event.Send c } ∷ [] };
  out = x.out - 1;
  channels = slice_set x.channels c None;
  entries = x.entries + 1;
}

-- it waits to receive, and the cells fit at its target
abbrev pub IsReceiver : Option Slot → List Cell → Type 0
IsReceiver (Some (slot.Here p (st.Receiving c k))) cs = CanTake p cs
IsReceiver _ _ = ⊥

-- the receiver is r once it has the cells
abbrev pub Receives : Option Slot → List Cell → Proc → Type 0
Receives (Some (slot.Here p (st.Receiving c k))) cs r =
    (config_of r ≡ on_store (put_cells plain p.target cs) (config_of p)) × (r.number ≡ p.number)
    × (r.input.value ≡ p.input.value)
Receives _ _ _ = ⊥

-- process p sent these cells to z, and both are ready
abbrev pub HasSent : Kernel → Proc → List Cell → ℕ → ℕ → Kernel → Type 0
HasSent x p cs c z y = (q r : Proc) × EntersAs p q × Receives (slice_get x.slots z) cs r × (y ≡ meets_sending q r c z x)
