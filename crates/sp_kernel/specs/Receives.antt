-- None of this belongs to what the program promises: it is for contracts between crates.
-- What an offer to receive does to the kernel. The contracts of `receive` cite it; that it is a legal step of the
-- control and the system is proved from it.
use Rattle.std.specs.Prelude.{◌≡◌, ℕ, ◌+◌, ◌-◌, List, [], ◌∷◌, ◌++◌, Option, Some, None, slice_get, slice_set}
use Rattle.sp_cell.specs.declared.cell.Cell.{Cell}
use Rattle.sp_journal.specs.declared.entry.Way.TheVariants as way
use Rattle.sp_journal.specs.declared.entry.Event.TheVariants as event
use Rattle.sp_kernel.specs.declared.slot.Slot.{Slot}
use Rattle.sp_kernel.specs.declared.slot.Slot.TheVariants as slot
use Rattle.sp_kernel.specs.declared.slot.State.TheVariants as st
use Rattle.sp_machine.specs.declared.state.State.{State as Proc}
use Rattle.sp_kernel.specs.declared.kernel.Kernel.{Kernel}
use Rattle.sp_code.specs.Memory.{put_cells}
use Rattle.sp_code.specs.PlainStore.{plain}
use Rattle.sp_code.specs.System.{on_store, process_at_entry}
use Rattle.sp_kernel.specs.Procs.{CanTake, config_of}
use Rattle.sp_kernel.specs.Kernels.{kernel_after_give}

-- it waits
abbrev pub waits_to_receive : Proc → ℕ → ℕ → Kernel → Kernel
waits_to_receive p c k x = record (kernel_after_give p.number (event.Receive c) (slot.Here p (st.Receiving c k)) x) {
  channels = slice_set x.channels c (Some (record { way = way.Receive; process = p.number; message = k }));
  entries = x.entries + 1;
}

-- it meets: the sender z is now t
abbrev pub meets_receiving : Proc → Proc → ℕ → ℕ → Kernel → Kernel
meets_receiving p t c z x = record x {
  slots = slice_set (slice_set x.slots z (slot.Here t st.Ready)) p.number (slot.Here p st.Ready);
  ready = (x.ready ++ z ∷ []) ++ p.number ∷ [];
  journal = record { entries = x.journal.entries ++ record { process = p.number; event = event.Receive c } ∷ [] };
  out = x.out - 1;
  channels = slice_set x.channels c None;
  entries = x.entries + 1;
}

-- it waits to send, and its message fits at the target of p
abbrev pub IsSender : Option Slot → Proc → Type 0
IsSender (Some (slot.Here q (st.Sending c k cs))) p = CanTake p cs
IsSender _ _ = ⊥

-- the sender is t, with this message
abbrev pub IsSenderWith : Option Slot → Proc → List Cell → Type 0
IsSenderWith (Some (slot.Here q (st.Sending c k bs))) t cs = (q ≡ t) × (bs ≡ cs)
IsSenderWith _ _ _ = ⊥

-- from here on its ticks count for the next pause, and it has the message
abbrev pub EntersWith : Proc → List Cell → Proc → Type 0
EntersWith p cs q = (config_of q ≡ on_store (put_cells plain p.target cs) (process_at_entry (config_of p)))
    × (q.number ≡ p.number) × (q.input.value ≡ p.input.value)

-- process p received the message of z, and both are ready
abbrev pub HasReceived : Kernel → Proc → ℕ → ℕ → Kernel → Type 0
HasReceived x p c z y = (q t : Proc) × (cs : List Cell) × IsSenderWith (slice_get x.slots z) t cs × EntersWith p cs q
    × (y ≡ meets_receiving q t c z x)
