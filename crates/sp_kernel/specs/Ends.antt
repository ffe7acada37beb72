-- None of this belongs to what the program promises: it is for contracts between crates.
-- What the end of a process does to the kernel. The contracts of `end` cite it; that it is a legal step of the control
-- and the system is proved from it.
use Rattle.std.specs.Prelude.{◌≡◌, ℕ, ◌-◌, ◌==◌, [], ◌∷◌, ◌++◌, Option, Some, None, if◌then◌else◌, slice_get, slice_set}
use Rattle.sp_journal.specs.declared.entry.Event.TheVariants as event
use Rattle.sp_code.specs.PlainStore.{plain}
use Rattle.sp_code.specs.Sound.{CanJoin}
use Rattle.sp_code.specs.System.{on_store}
use Rattle.sp_machine.specs.declared.state.State.{State as Proc}
use Rattle.sp_kernel.specs.declared.slot.Slot.{Slot}
use Rattle.sp_kernel.specs.declared.slot.Slot.TheVariants as slot
use Rattle.sp_kernel.specs.declared.slot.State.{State}
use Rattle.sp_kernel.specs.declared.slot.State.TheVariants as st
use Rattle.sp_kernel.specs.declared.kernel.Kernel.{Kernel}
use Rattle.sp_kernel.specs.Procs.{config_of}
use Rattle.sp_kernel.specs.Kernels.{with_entry}

-- how many children a process still waits for
abbrev pub left_in : Option Slot → ℕ
left_in None = 0
left_in (Some (slot.Here p (st.Joining n))) = n
left_in (Some (slot.Here p st.Ready)) = 0
left_in (Some (slot.Here p (st.Sending c k cs))) = 0
left_in (Some (slot.Here p (st.Receiving c k))) = 0
left_in (Some (slot.Here p st.Laid)) = 0
left_in (Some (slot.Here p st.Over)) = 0
left_in (Some (slot.Out w p)) = 0
left_in (Some slot.Ended) = 0
left_in (Some (slot.Gone p)) = 0

-- it waits for one fewer, and is ready after the last one
abbrev pub one_fewer : ℕ → State
one_fewer n = if n == 1 then st.Ready else st.Joining (n - 1)

-- an entry more; after the last child the parent z is ready
abbrev pub noted_end : ℕ → ℕ → Kernel → Kernel
noted_end p z x = record (with_entry p event.End x)
    { ready = if left_in (slice_get x.slots z) == 1 then x.ready ++ z ∷ [] else x.ready }

-- child p has ended, and its parent z is now in this slot
abbrev pub ends_child : ℕ → ℕ → Slot → Kernel → Kernel
ends_child p z t x = record x {
  slots = slice_set (slice_set x.slots p slot.Ended) z t;
  ready = if left_in (slice_get x.slots z) == 1 then x.ready ++ z ∷ [] else x.ready;
  journal = record { entries = x.journal.entries ++ record { process = p; event = event.End } ∷ [] };
  out = x.out - 1;
}

-- it joins, and can take back from this child
abbrev pub IsJoiner : Option Slot → Proc → Type 0
IsJoiner (Some (slot.Here q (st.Joining n))) p = CanJoin q.store p.store
IsJoiner _ _ = ⊥

-- q took back from p, and is r now
abbrev pub TookBack : Proc → Proc → Proc → Type 0
TookBack q p r = (config_of r ≡ on_store (λ m. plain.joined m p.store) (config_of q)) × (r.number ≡ q.number)
    × (r.input.value ≡ q.input.value)

-- the slot of one that joins, after it took back from p
abbrev pub JoinedSlot : Option Slot → Proc → Slot → Type 0
JoinedSlot (Some (slot.Here q (st.Joining n))) p t = (r : Proc) × (t ≡ slot.Here r (one_fewer n)) × TookBack q p r
JoinedSlot _ _ _ = ⊥
