-- None of this belongs to what the program promises: it is for contracts between crates.
-- The kernel in memory as the definitions see it: the control and the system that its slots, queue and journal stand
-- for, its invariant, and what each call does (`FitsCells`, `IsAfterGive`, `Abandons`). All contracts of the kernel
-- cite it.
use Rattle.std.specs.Prelude.{◌≡◌, ℕ, ◌+◌, ◌-◌, List, [], ◌∷◌, ◌++◌, length, Option, Some, None, Bool, slice_get}
use Rattle.std.specs.Prelude.{slice_set, nat_lt, ◌||◌}
use Rattle.std.specs.Option.{option_map}
use Rattle.sp_cell.specs.Map.{Plain}
use Rattle.sp_journal.specs.declared.entry.Way.{Way}
use Rattle.sp_journal.specs.declared.entry.Way.TheVariants as way
use Rattle.sp_journal.specs.declared.entry.Event.{Event}
use Rattle.sp_journal.specs.declared.entry.Event.TheVariants as event
use Rattle.sp_journal.specs.declared.entry.Birth.{Birth}
use Rattle.sp_journal.specs.Births.{Births, births}
use Rattle.sp_channel.specs.declared.channels.Pending.{Pending}
use Rattle.sp_code.specs.Machine as m
use Rattle.sp_code.specs.Memory.{CodeRun}
use Rattle.sp_code.specs.PlainStore.{plain}
use Rattle.sp_code.specs.Sound.{run_of}
use Rattle.sp_code.specs.Control.{Control, Doing, Unborn, Ready, Out, Sending, Receiving, Joining, Laid, Ended, Gone}
use Rattle.sp_code.specs.Control.{comes_back, takes, abandons, front, has_ended, standing, Standing}
use Rattle.sp_code.specs.Control.{Running}
use Rattle.sp_code.specs.Control.{IsDone, IsDeadlock, IsFault, IsMemory}
use Rattle.sp_kernel.specs.declared.kernel.Standing.{Standing as KernelStanding}
use Rattle.sp_kernel.specs.declared.kernel.Standing.TheVariants as kernel_standing
use Rattle.sp_code.specs.System.{System, Condition, Absent, Working, Waits, Joins, Laid as IsLaid, Gone as HasGone}
use Rattle.sp_code.specs.System.{Over, system_after_turn, event_of}
use Rattle.sp_kernel.specs.declared.slot.Slot.{Slot}
use Rattle.sp_kernel.specs.declared.slot.Slot.TheVariants as slot
use Rattle.sp_kernel.specs.declared.slot.State.TheVariants as st
use Rattle.sp_machine.specs.declared.state.State.{State as Proc}
use Rattle.sp_kernel.specs.declared.handed.Handed.{Handed}
use Rattle.sp_kernel.specs.declared.kernel.Kernel.{Kernel}
use Rattle.sp_kernel.specs.Procs.{config_of, target_of, turn_of}
use Rattle.sp_code.specs.Agreement.{IsOrderly, AgreesWithSystem}

-- what the control tells of a slot
abbrev pub doing_in : Option Slot → Doing
doing_in None = Unborn
doing_in (Some (slot.Here p st.Ready)) = Ready
doing_in (Some (slot.Out w p)) = Out w
doing_in (Some (slot.Here p (st.Sending c k cs))) = Sending c
doing_in (Some (slot.Here p (st.Receiving c k))) = Receiving c
doing_in (Some (slot.Here p (st.Joining n))) = Joining n
doing_in (Some (slot.Here p st.Laid)) = Laid
doing_in (Some slot.Ended) = Ended
doing_in (Some (slot.Here p st.Over)) = Ended
doing_in (Some (slot.Gone p)) = Gone

-- what the system tells of a slot
abbrev pub condition_in : Option Slot → Condition Plain
condition_in None = Absent
condition_in (Some (slot.Here p st.Ready)) = Working (config_of p)
condition_in (Some (slot.Out w p)) = Working (config_of p.value)
condition_in (Some (slot.Here p (st.Sending c k cs))) = Waits (m.Sends c k cs) (config_of p)
condition_in (Some (slot.Here p (st.Receiving c k))) = Waits (m.Receives c k (target_of p)) (config_of p)
condition_in (Some (slot.Here p (st.Joining n))) = Joins n (config_of p)
condition_in (Some (slot.Here p st.Laid)) = IsLaid (config_of p)
condition_in (Some slot.Ended) = HasGone
condition_in (Some (slot.Here p st.Over)) = Over (config_of p)
condition_in (Some (slot.Gone p)) = Working (config_of p.value)

-- the offer that is pending on a channel
abbrev pub offer_in : Option (Option Pending) → Option (Way × ℕ)
offer_in None = None
offer_in (Some None) = None
offer_in (Some (Some o)) = Some (o.way, o.process)

abbrev pub process_in : Option (Option Pending) → Option ℕ
process_in None = None
process_in (Some None) = None
process_in (Some (Some o)) = Some o.process

-- the control for which the kernel stands
abbrev pub control_of : Kernel → Control
control_of x = record {
  doing = λ q. doing_in (slice_get x.slots q);
  ready = x.ready;
  out = x.out;
  pending = λ c. offer_in (slice_get x.channels c);
  births = births x.journal.entries;
  faulted = x.faulted;
  abandons = x.abandons;
}

-- the system for which it stands
abbrev pub system_of : Kernel → System Plain
system_of x = record {
  condition = λ q. condition_in (slice_get x.slots q);
  births = births x.journal.entries;
  pending = λ c. process_in (slice_get x.channels c);
  faulted = x.faulted;
  entries = x.entries;
}

-- the run that it is of
abbrev pub code_run_of : Kernel → CodeRun
code_run_of x = run_of x.code.value x.root.value.input.value x.limits

-- who offers waits with that offer
abbrev pub WaitsAs : Option Slot → ℕ → Pending → Type 0
WaitsAs (Some (slot.Here p (st.Sending c k cs))) d o = (c ≡ d) × (k ≡ o.message) × (o.way ≡ way.Send)
WaitsAs (Some (slot.Here p (st.Receiving c k))) d o = (c ≡ d) × (k ≡ o.message) × (o.way ≡ way.Receive)
WaitsAs _ _ _ = ⊥

-- a process is in the slot of its number, and reads this input
abbrev pub IsOwn : List ℕ → Proc → ℕ → Type 0
IsOwn input p q = (p.number ≡ q) × (p.input.value ≡ input)

-- a process has the number of its slot, and the run's input
abbrev pub NumberIn : List ℕ → Option Slot → ℕ → Type 0
NumberIn input None q = Unit {0}
NumberIn input (Some (slot.Here p st.Ready)) q = IsOwn input p q
NumberIn input (Some (slot.Out v p)) q = Unit {0}
NumberIn input (Some (slot.Here p (st.Sending c k cs))) q = IsOwn input p q
NumberIn input (Some (slot.Here p (st.Receiving c k))) q = IsOwn input p q
NumberIn input (Some (slot.Here p (st.Joining n))) q = IsOwn input p q
NumberIn input (Some (slot.Here p st.Laid)) q = IsOwn input p q
NumberIn input (Some slot.Ended) q = Unit {0}
NumberIn input (Some (slot.Here p st.Over)) q = IsOwn input p q
NumberIn input (Some (slot.Gone p)) q = Unit {0}

abbrev pub parent_in : Option (Option ℕ) → Option ℕ
parent_in None = None
parent_in (Some o) = o

abbrev pub parent_of : Option Birth → Option ℕ
parent_of None = None
parent_of (Some b) = Some b.parent

-- the table has the parent of each process
pub record HasParents (parents : List (Option ℕ)) (b : Births) : Type 0 where
  pub count : length parents ≡ b.processes
  pub each : (q : ℕ) → parent_in (slice_get parents q) ≡ parent_of (b.birth q)

-- the tables fit together
pub record IsKernel (x : Kernel) : Type 0 where
  pub orderly : IsOrderly (control_of x)
  pub agrees : AgreesWithSystem (control_of x) (system_of x)
  pub processes : length x.slots ≡ (births x.journal.entries).processes
  pub channels : length x.channels ≡ (births x.journal.entries).channels
  pub offers : (c : ℕ) (o : Pending) → slice_get x.channels c ≡ Some (Some o)
      → WaitsAs (slice_get x.slots o.process) c o
  pub numbers : (q : ℕ) → NumberIn (code_run_of x).input (slice_get x.slots q) q
  pub parents : HasParents x.parents (births x.journal.entries)

-- ---- what the steps do

-- an entry more
abbrev pub with_entry : ℕ → Event → Kernel → Kernel
with_entry q e x = record x {
  journal =
      record { entries = x.journal.entries ++ record { process = q; event = e } ∷ [] };
}

-- process q comes back, with an entry, and is in this slot
abbrev pub kernel_after_give : ℕ → Event → Slot → Kernel → Kernel
kernel_after_give q e s x = record x {
  slots = slice_set x.slots q s;
  journal = record { entries = x.journal.entries ++ record { process = q; event = e } ∷ [] };
  out = x.out - 1;
}

-- process q is in this slot
abbrev pub with_slot : ℕ → Slot → Kernel → Kernel
with_slot q s x = record x { slots = slice_set x.slots q s }

-- process q goes out
abbrev pub with_process_out : ℕ → Slot → Kernel → Kernel
with_process_out q s x = record x { slots = slice_set x.slots q s; out = x.out + 1 }

-- process q is lost with its worker
abbrev pub kernel_after_loss : ℕ → Slot → Kernel → Kernel
kernel_after_loss q s x = record x { slots = slice_set x.slots q s; out = x.out - 1; abandons = x.abandons + 1 }

-- process q is p now, at the back of the queue
abbrev pub kernel_after_pause : ℕ → Proc → Kernel → Kernel
kernel_after_pause q p x = record (kernel_after_give q event.Pause (slot.Here p st.Ready) x) {
  ready =
      x.ready ++ q ∷ [];
}

-- the event of what was handed in was done
pub record IsAfterGive (x : Kernel) (p : ℕ) (h : Handed) (y : Kernel) : Type 0 where
  pub control : control_of y ≡ comes_back p (event_of x.limits (system_of x) (turn_of h)) (control_of x)
  pub system : system_of y ≡ system_after_turn plain (code_run_of x) p (turn_of h) (system_of x)
  pub code_run : (y.code ≡ x.code) × (y.limits ≡ x.limits) × (y.root ≡ x.root)
  pub entry : y.journal.entries ≡ x.journal.entries
      ++ record { process = p; event = event_of x.limits (system_of x) (turn_of h) } ∷ []
  pub whole : IsKernel y

-- the slot of a ready process
abbrev pub IsReady : Option Slot → Type 0
IsReady (Some (slot.Here p st.Ready)) = Unit {0}
IsReady _ = ⊥

-- what is taken: the front of the queue, as the system has it; or nothing, and then nothing changes
pub record Takes (x : Kernel) (w : ℕ) (y : Kernel) (r : Option Proc) : Type 0 where
  pub control : control_of y ≡ takes w (option_map (λ (p : Proc). p.number) r) (control_of x)
  pub front : option_map (λ (p : Proc). p.number) r ≡ front (control_of x)
  pub system : system_of y ≡ system_of x
  pub unchanged : r ≡ None → y ≡ x
  pub work : (p : Proc) → r ≡ Some p → ((system_of x).condition p.number ≡ Working (config_of p))
      × (p.input.value ≡ (code_run_of x).input)
  pub code_run : (y.code ≡ x.code) × (y.limits ≡ x.limits) × (y.root ≡ x.root)
  pub journal : y.journal ≡ x.journal
  pub whole : IsKernel y

-- the run has come to an end
abbrev pub is_over : Control → Bool
is_over k = nat_lt 0 k.abandons || (k.faulted || has_ended (k.doing 0))

-- how a run stands, as the kernel tells it
abbrev pub kernel_standing_of : Standing → KernelStanding
kernel_standing_of Running = kernel_standing.Running
kernel_standing_of IsDone = kernel_standing.Done
kernel_standing_of IsDeadlock = kernel_standing.Deadlock
kernel_standing_of IsFault = kernel_standing.Fault
kernel_standing_of IsMemory = kernel_standing.Memory

-- how the run stands, as the kernel tells it
abbrev pub stands_as : Control → KernelStanding
stands_as k = kernel_standing_of (standing k)

-- a worker gave up, with the process o, if any
pub record Abandons (x : Kernel) (o : Option ℕ) (y : Kernel) : Type 0 where
  pub control : control_of y ≡ abandons o (control_of x)
  pub system : system_of y ≡ system_of x
  pub code_run : (y.code ≡ x.code) × (y.limits ≡ x.limits) × (y.root ≡ x.root)
  pub journal : y.journal ≡ x.journal
  pub whole : IsKernel y
