-- None of this belongs to what the program promises: it is for contracts between crates.
-- What an open does to the kernel. The contracts of `open` cite it; that it is a legal step of the control and the
-- system is proved from it.
use Rattle.std.specs.Prelude.{◌≡◌, ℕ, ◌+◌, [], ◌∷◌, ◌++◌, None}
use Rattle.sp_cell.specs.declared.cell.Cell.TheVariants as cell
use Rattle.sp_journal.specs.declared.entry.Event.TheVariants as event
use Rattle.sp_code.specs.Memory.{put_cell}
use Rattle.sp_code.specs.PlainStore.{plain}
use Rattle.sp_code.specs.System.{on_store, process_at_entry}
use Rattle.sp_machine.specs.declared.state.State.{State as Proc}
use Rattle.sp_kernel.specs.declared.slot.Slot.TheVariants as slot
use Rattle.sp_kernel.specs.declared.slot.State.TheVariants as st
use Rattle.sp_kernel.specs.declared.kernel.Kernel.{Kernel}
use Rattle.sp_kernel.specs.Procs.{config_of}
use Rattle.sp_kernel.specs.Kernels.{kernel_after_give}

-- a channel more, on which nothing is pending
abbrev pub kernel_after_open : Proc → Kernel → Kernel
kernel_after_open p x = record (kernel_after_give p.number event.Open (slot.Here p st.Ready) x)
    { ready = x.ready ++ p.number ∷ []; channels = x.channels ++ None ∷ []; entries = x.entries + 1 }

-- from here on its ticks count for the next pause, and it has the number of a channel
abbrev pub EntersAt : Proc → ℕ → Proc → Type 0
EntersAt p c q = (config_of q ≡ on_store (put_cell plain p.target (cell.Channel c)) (process_at_entry (config_of p)))
    × (q.number ≡ p.number) × (q.input.value ≡ p.input.value)
