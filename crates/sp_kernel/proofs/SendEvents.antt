-- An offer to send: it waits, it meets, or it is a fault. It leads from `specs/Sends.antt` to `IsAfterGive`.
use Rattle.std.proofs.Common.{◌≡◌, ℕ, ◌+◌, ◌-◌, ◌==◌, true, false, if◌then◌else◌, nat_lt, List, [], ◌∷◌, ◌++◌, Option}
use Rattle.std.proofs.Common.{Some, None, slice_get, slice_set, refl, sym, ap, ◌∙◌, subst}
use Rattle.std.proofs.lemmas.Option.{slice_get_within}
use Rattle.std.proofs.lemmas.List.{length-set}
use Rattle.sp_base.specs.declared.limits.Limits.{Limits}
use Rattle.sp_base.specs.declared.fault.Fault.TheVariants as fault
use Rattle.sp_cell.specs.declared.cell.Cell.{Cell}
use Rattle.sp_cell.specs.Map.{Plain}
use Rattle.sp_journal.specs.declared.entry.Way.{Way}
use Rattle.sp_journal.specs.declared.entry.Way.TheVariants as way
use Rattle.sp_journal.specs.declared.entry.Event.TheVariants as event
use Rattle.sp_journal.specs.Maps.{at_key}
use Rattle.sp_journal.specs.Births.{Births, births}
use Rattle.sp_channel.specs.declared.channels.Pending.{Pending}
use Rattle.sp_code.specs.Machine as m
use Rattle.sp_code.specs.Memory.{Memory, memory}
use Rattle.sp_code.specs.PlainStore.{plain}
use Rattle.sp_code.specs.Turns.{Stopped, IsTurn}
use Rattle.sp_code.specs.Sound.{StopsAt}
use Rattle.sp_code.specs.Control.{Out, Sending, comes_back, offers}
use Rattle.sp_code.specs.System.{System, Working, Waits, system_after_turn, event_of, process_at_entry, fault_of}
use Rattle.sp_code.specs.System.{apply_send, after_message}
use Rattle.sp_code.specs.System.{with_entry_counted, clash_by, pending_stop, stop_of}
use Rattle.sp_kernel.specs.declared.slot.Slot.{Slot}
use Rattle.sp_kernel.specs.declared.slot.Slot.TheVariants as slot
use Rattle.sp_kernel.specs.declared.slot.State.TheVariants as st
use Rattle.sp_machine.specs.declared.state.State.{State as Proc}
use Rattle.sp_kernel.specs.declared.handed.Handed.{Handed}
use Rattle.sp_machine.specs.declared.state.Stop.TheVariants as stop
use Rattle.sp_kernel.specs.declared.kernel.Kernel.{Kernel}
use Rattle.sp_kernel.specs.Procs.{config_of, turn_by, turn_of, EntersAs}
use Rattle.sp_kernel.specs.Kernels.{doing_in, condition_in, offer_in, process_in, control_of, system_of, code_run_of}
use Rattle.sp_kernel.specs.Kernels.{WaitsAs, IsOwn, NumberIn, IsKernel, IsAfterGive}
use Rattle.sp_kernel.specs.Sends.{waits_to_send, meets_sending, IsReceiver, Receives as Gets}
use Rattle.sp_kernel.specs.Fits.{FitsHanded}
use Rattle.sp_kernel.proofs.Tables.{table_set}
use Rattle.sp_kernel.proofs.KernelEvents.{event_no_fault, after_no_fault, whole_after, next_doing, next_condition}
use Rattle.sp_kernel.proofs.KernelEvents.{next_births}
use Rattle.sp_kernel.proofs.KernelEvents.{same_numbers, parents_after}
use Rattle.sp_kernel.proofs.OfferEvents.{offers_with, both_set, met_offers, met_numbers}

-- ---- no fault, or which

module _ (lim : Limits) (s : System Plain) (c k : ℕ) (cs : List Cell) (d : m.Config (Memory Plain)) where
  pub full_fault : nat_lt lim.entries (s.entries + 1) ≡ true
      → fault_of lim s (Stopped (m.Sends c k cs) d) ≡ Some fault.F15
  full_fault e = rw e refl

  pub clash_fault : nat_lt lim.entries (s.entries + 1) ≡ false
      → fault_of lim s (Stopped (m.Sends c k cs) d) ≡ clash_by way.Send k (pending_stop s (s.pending c))
  clash_fault e = rw e refl

module _ (x : Kernel) (k : IsKernel x) (p w : ℕ) (here : (control_of x).doing p ≡ Out w) (h : Handed) (c j : ℕ)
    (cs : List Cell)
    (is : h.stop ≡ stop.Send c j cs) (no_fault : x.faulted ≡ false)
    (fine : fault_of x.limits (system_of x) (Stopped (m.Sends c j cs) (config_of h.proc)) ≡ None)
    (r : Proc) (en : EntersAs h.proc r) (number : h.proc.number ≡ p)
    (reads : h.proc.input.value ≡ (code_run_of x).input) where
  turn_is : turn_of h ≡ Stopped (m.Sends c j cs) (config_of h.proc)
  turn_is = ap (λ s. turn_by s h.proc) is

  event_is : event.Send c ≡ event_of x.limits (system_of x) (turn_of h)
  event_is = event_no_fault x.limits (system_of x) (m.Sends c j cs) (config_of h.proc) no_fault fine
      ∙ ap (event_of x.limits (system_of x)) (sym turn_is)

  own : r.number ≡ p
  own = en.1 ∙ number

  its : IsOwn (code_run_of x).input r p
  its = let (_, _, _, same_input) = en in (own, same_input ∙ reads)

  -- nothing is pending: it waits
  module _ (free : slice_get x.channels c ≡ Some None) where
    abbrev first : Kernel
    first = record x {
      slots = slice_set x.slots p (slot.Here r (st.Sending c j cs));
      journal = record { entries = x.journal.entries ++ record { process = p; event = event.Send c } ∷ [] };
      out = x.out - 1;
      channels = slice_set x.channels c (Some (record { way = way.Send; process = p; message = j }));
      entries = x.entries + 1;
    }

    first_control : control_of first ≡ comes_back p (event_of x.limits (system_of x) (turn_of h)) (control_of x)
    first_control = (λ i. record (control_of x) {
      doing = next_doing x k p w here (event.Send c) (slot.Here r (st.Sending c j cs)) i;
      out = x.out - 1;
      pending = table_set offer_in x.channels c (Some (record { way = way.Send; process = p; message = j }))
          (slice_get_within x.channels c None free) i;
      births = next_births x k p w here (event.Send c) (slot.Here r (st.Sending c j cs)) i;
    })
        ∙ ap (λ (o : Option (Way × ℕ)). record (offers way.Send (Sending c) p c o (control_of x))
        { out = x.out - 1; births = births x.journal.entries }) (sym (ap offer_in free))
        ∙ ap (λ e. comes_back p e (control_of x)) event_is

    first_system : system_of first ≡ system_after_turn plain (code_run_of x) p (turn_of h) (system_of x)
    first_system = (λ i. record (system_of x) {
      condition = (next_condition x k p w here (event.Send c) (slot.Here r (st.Sending c j cs))
          ∙ ap (λ d. at_key ◌==◌ p (Waits (m.Sends c j cs) d) (system_of x).condition) en.0) i;
      pending = table_set process_in x.channels c (Some (record { way = way.Send; process = p; message = j }))
          (slice_get_within x.channels c None free) i;
      births = next_births x k p w here (event.Send c) (slot.Here r (st.Sending c j cs)) i;
      entries = x.entries + 1;
    })
        ∙ ap (λ (o : Option ℕ). record (with_entry_counted plain (code_run_of x)
        (apply_send plain (code_run_of x) p (m.Sends c j cs) c cs (process_at_entry (config_of h.proc)) o
        (system_of x)))
        { births = births x.journal.entries }) (sym (ap process_in free))
        ∙ after_no_fault (code_run_of x) (system_of x) p (m.Sends c j cs) (config_of h.proc) no_fault fine
        ∙ ap (λ t. system_after_turn plain (code_run_of x) p t (system_of x)) (sym turn_is)

    first_gave : IsAfterGive x p h first
    first_gave = record {
      control = first_control;
      system = first_system;
      code_run = (refl, refl, refl);
      entry = ap (λ e. x.journal.entries ++ record { process = p; event = e } ∷ []) event_is;
      whole = whole_after x k p w here h first first_control first_system
          (length-set x.slots p _ ∙ k.processes
          ∙ ap (λ (b : Births). b.processes)
          (sym (next_births x k p w here (event.Send c) (slot.Here r (st.Sending c j cs)))))
          (length-set x.channels c _ ∙ k.channels
          ∙ ap (λ (b : Births). b.channels)
          (sym (next_births x k p w here (event.Send c) (slot.Here r (st.Sending c j cs)))))
          (offers_with x k p w here c (record { way = way.Send; process = p; message = j })
          (slot.Here r (st.Sending c j cs)) refl (refl, refl, refl) free)
          (same_numbers x k p w here (slot.Here r (st.Sending c j cs)) its)
          (parents_after x k p w here x.parents (event.Send c) k.parents);
    }

    pub gave_first : IsAfterGive x p h (waits_to_send r c j cs x)
    gave_first = subst (λ n. IsAfterGive x p h (record x {
      slots = slice_set x.slots n (slot.Here r (st.Sending c j cs));
      journal = record { entries = x.journal.entries ++ record { process = n; event = event.Send c } ∷ [] };
      out = x.out - 1;
      channels = slice_set x.channels c (Some (record { way = way.Send; process = n; message = j }));
      entries = x.entries + 1;
    })) (sym own) first_gave

  -- an offer to receive is pending: it meets
  module _ (z : ℕ) (pending : slice_get x.channels c
      ≡ Some (Some (record { way = way.Receive; process = z; message = j }))) (t : Proc)
      (gets : Gets (slice_get x.slots z) cs t) where
    met : Kernel
    met = record x {
      slots = slice_set (slice_set x.slots z (slot.Here t st.Ready)) p (slot.Here r st.Ready);
      ready = (x.ready ++ z ∷ []) ++ p ∷ [];
      journal = record { entries = x.journal.entries ++ record { process = p; event = event.Send c } ∷ [] };
      out = x.out - 1;
      channels = slice_set x.channels c None;
      entries = x.entries + 1;
    }

    received_is : after_message plain (code_run_of x) cs (condition_in (slice_get x.slots z)) ≡ Working (config_of t)
    received_is = go (slice_get x.slots z) gets
      where
        go : (o : Option Slot) → Gets o cs t → after_message plain (code_run_of x) cs (condition_in o)
            ≡ Working (config_of t)
        go None e = absurd e
        go (Some (slot.Here q st.Ready)) e = absurd e
        go (Some (slot.Out v q)) e = absurd e
        go (Some (slot.Here q (st.Sending d i bs))) e = absurd e
        go (Some (slot.Here q (st.Receiving d i))) e = ap (λ y. Working y) (sym e.0)
        go (Some (slot.Here q (st.Joining n))) e = absurd e
        go (Some (slot.Here q st.Laid)) e = absurd e
        go (Some slot.Ended) e = absurd e
        go (Some (slot.Here q st.Over)) e = absurd e
        go (Some (slot.Gone q)) e = absurd e

  module _ (z : ℕ) (pending : slice_get x.channels c
      ≡ Some (Some (record { way = way.Receive; process = z; message = j }))) (t : Proc)
      (gets : Gets (slice_get x.slots z) cs t) where
    met_control : control_of (met z pending t gets)
        ≡ comes_back p (event_of x.limits (system_of x) (turn_of h)) (control_of x)
    unfolding met
    met_control = (λ i. record (control_of x) {
      doing = both_set x k p w here c _ pending t r doing_in i;
      ready = (x.ready ++ z ∷ []) ++ p ∷ [];
      out = x.out - 1;
      pending = table_set offer_in x.channels c None (slice_get_within x.channels c _ pending) i;
      births = next_births x k p w here (event.Send c) (slot.Here r st.Ready) i;
    })
        ∙ ap (λ (o : Option (Way × ℕ)). record (offers way.Send (Sending c) p c o (control_of x))
        { out = x.out - 1; births = births x.journal.entries }) (sym (ap offer_in pending))
        ∙ ap (λ e. comes_back p e (control_of x)) event_is

    met_system : system_of (met z pending t gets) ≡ system_after_turn plain (code_run_of x) p (turn_of h) (system_of x)
    unfolding met
    met_system = (λ i. record (system_of x) {
      condition = (both_set x k p w here c _ pending t r condition_in
          ∙ ap (λ d. at_key ◌==◌ p (Working d) (at_key ◌==◌ z (Working (config_of t)) (system_of x).condition)) en.0
          ∙ ap (λ y. at_key ◌==◌ p (Working (process_at_entry (config_of h.proc)))
          (at_key ◌==◌ z y (system_of x).condition))
          (sym (received_is z pending t gets))) i;
      pending = table_set process_in x.channels c None (slice_get_within x.channels c _ pending) i;
      births = next_births x k p w here (event.Send c) (slot.Here r st.Ready) i;
      entries = x.entries + 1;
    })
        ∙ ap (λ (o : Option ℕ). record (with_entry_counted plain (code_run_of x)
        (apply_send plain (code_run_of x) p (m.Sends c j cs) c cs (process_at_entry (config_of h.proc)) o
        (system_of x)))
        { births = births x.journal.entries }) (sym (ap process_in pending))
        ∙ after_no_fault (code_run_of x) (system_of x) p (m.Sends c j cs) (config_of h.proc) no_fault fine
        ∙ ap (λ t. system_after_turn plain (code_run_of x) p t (system_of x)) (sym turn_is)

    got_number : IsOwn (code_run_of x).input t z
    got_number = go (slice_get x.slots z) gets (k.numbers z)
      where
        go : (o : Option Slot) → Gets o cs t → NumberIn (code_run_of x).input o z → IsOwn (code_run_of x).input t z
        go None e n = absurd e
        go (Some (slot.Here q st.Ready)) e n = absurd e
        go (Some (slot.Out v q)) e n = absurd e
        go (Some (slot.Here q (st.Sending d i bs))) e n = absurd e
        go (Some (slot.Here q (st.Receiving d i))) e n = (e.1 ∙ n.0, e.2 ∙ n.1)
        go (Some (slot.Here q (st.Joining m))) e n = absurd e
        go (Some (slot.Here q st.Laid)) e n = absurd e
        go (Some slot.Ended) e n = absurd e
        go (Some (slot.Here q st.Over)) e n = absurd e
        go (Some (slot.Gone q)) e n = absurd e

    met_gave : IsAfterGive x p h (met z pending t gets)
    unfolding met
    met_gave = record {
      control = met_control;
      system = met_system;
      code_run = (refl, refl, refl);
      entry = ap (λ e. x.journal.entries ++ record { process = p; event = e } ∷ []) event_is;
      whole = whole_after x k p w here h (met z pending t gets) met_control met_system
          (length-set (slice_set x.slots z (slot.Here t st.Ready)) p _ ∙ length-set x.slots z _ ∙ k.processes
          ∙ ap (λ (b : Births). b.processes) (sym (next_births x k p w here (event.Send c) (slot.Here r st.Ready))))
          (length-set x.channels c _ ∙ k.channels
          ∙ ap (λ (b : Births). b.channels) (sym (next_births x k p w here (event.Send c) (slot.Here r st.Ready))))
          (met_offers x k p w here c _ pending t r)
          (met_numbers x k p w here c _ pending t r got_number its)
          (parents_after x k p w here x.parents (event.Send c) k.parents);
    }

    pub gave_met : IsAfterGive x p h (meets_sending r t c z x)
    unfolding met
    gave_met = subst (λ n. IsAfterGive x p h (record x {
      slots = slice_set (slice_set x.slots z (slot.Here t st.Ready)) n (slot.Here r st.Ready);
      ready = (x.ready ++ z ∷ []) ++ n ∷ [];
      journal = record { entries = x.journal.entries ++ record { process = n; event = event.Send c } ∷ [] };
      out = x.out - 1;
      channels = slice_set x.channels c None;
      entries = x.entries + 1;
    })) (sym own) met_gave

-- ---- the fault of an offer, by what is pending

pub clash_same : (o : Option Slot) (c k : ℕ) (q : Pending) → WaitsAs o c q → q.way ≡ way.Send
    → clash_by way.Send k (stop_of (condition_in o)) ≡ Some fault.F6
clash_same None c k q e f = absurd e
clash_same (Some (slot.Here r st.Ready)) c k q e f = absurd e
clash_same (Some (slot.Out v r)) c k q e f = absurd e
clash_same (Some (slot.Here r (st.Sending d i bs))) c k q e f = refl
clash_same (Some (slot.Here r (st.Receiving d i))) c k q e f = absurd (let g : q.way ≡ way.Receive = e.2 in cc (f, g))
clash_same (Some (slot.Here r (st.Joining n))) c k q e f = absurd e
clash_same (Some (slot.Here r st.Laid)) c k q e f = absurd e
clash_same (Some slot.Ended) c k q e f = absurd e
clash_same (Some (slot.Here r st.Over)) c k q e f = absurd e
clash_same (Some (slot.Gone r)) c k q e f = absurd e

pub clash_other : (o : Option Slot) (c k : ℕ) (q : Pending) → WaitsAs o c q → q.way ≡ way.Receive
    → clash_by way.Send k (stop_of (condition_in o)) ≡ (if q.message == k then None else Some fault.F7)
clash_other None c k q e f = absurd e
clash_other (Some (slot.Here r st.Ready)) c k q e f = absurd e
clash_other (Some (slot.Out v r)) c k q e f = absurd e
clash_other (Some (slot.Here r (st.Sending d i bs))) c k q e f = absurd (let g : q.way ≡ way.Send = e.2 in cc (f, g))
clash_other (Some (slot.Here r (st.Receiving d i))) c k q e f = ap (λ n. if n == k then None else Some fault.F7) e.1
clash_other (Some (slot.Here r (st.Joining n))) c k q e f = absurd e
clash_other (Some (slot.Here r st.Laid)) c k q e f = absurd e
clash_other (Some slot.Ended) c k q e f = absurd e
clash_other (Some (slot.Here r st.Over)) c k q e f = absurd e
clash_other (Some (slot.Gone r)) c k q e f = absurd e

-- with nothing, with one of its way, with one of the other way pending
module _ (x : Kernel) (k : IsKernel x) (c j : ℕ) (cs : List Cell) (d : m.Config (Memory Plain))
    (room : nat_lt x.limits.entries (x.entries + 1) ≡ false) where
  by_pending : fault_of x.limits (system_of x) (Stopped (m.Sends c j cs) d)
      ≡ clash_by way.Send j (pending_stop (system_of x) (process_in (slice_get x.channels c)))
  by_pending = clash_fault x.limits (system_of x) c j cs d room

  pub fault_free : slice_get x.channels c ≡ Some None
      → fault_of x.limits (system_of x) (Stopped (m.Sends c j cs) d) ≡ None
  fault_free e = by_pending ∙ ap (λ o. clash_by way.Send j (pending_stop (system_of x) (process_in o))) e

  pub fault_same : (q : Pending) → slice_get x.channels c ≡ Some (Some q) → q.way ≡ way.Send
      → fault_of x.limits (system_of x) (Stopped (m.Sends c j cs) d) ≡ Some fault.F6
  fault_same q e f = by_pending ∙ ap (λ o. clash_by way.Send j (pending_stop (system_of x) (process_in o))) e
      ∙ clash_same (slice_get x.slots q.process) c j q (k.offers c q e) f

  pub fault_other : (q : Pending) → slice_get x.channels c ≡ Some (Some q) → q.way ≡ way.Receive
      → fault_of x.limits (system_of x) (Stopped (m.Sends c j cs) d) ≡ (if q.message == j then None else Some fault.F7)
  fault_other q e f = by_pending ∙ ap (λ o. clash_by way.Send j (pending_stop (system_of x) (process_in o))) e
      ∙ clash_other (slice_get x.slots q.process) c j q (k.offers c q e) f

-- the message fits at its receiver
pub receiver_takes : (x : Kernel) (k : IsKernel x) (w : ℕ) (h : Handed) (c j : ℕ) (cs : List Cell)
    → h.stop ≡ stop.Send c j cs → x.faulted ≡ false
    → fault_of x.limits (system_of x) (Stopped (m.Sends c j cs) (config_of h.proc)) ≡ None
    → FitsHanded x w h → (q : Pending) → slice_get x.channels c ≡ Some (Some q) → q.way ≡ way.Receive
    → IsReceiver (slice_get x.slots q.process) cs
receiver_takes x k w h c j cs is no_fault fine fits q e f = go (slice_get x.slots q.process) refl (k.offers c q e)
  where
    stops : StopsAt (code_run_of x) (system_of x) h.proc.number (m.Sends c j cs) (config_of h.proc)
    stops = record {
      configuration = fits.configuration;
      runs = fits.runs;
      turn = subst (λ t. IsTurn (memory plain (code_run_of x)) (code_run_of x).code fits.configuration t)
          (ap (λ s. turn_by s h.proc) is) fits.turn;
      no_fault = no_fault;
      fine = fine;
    }

    go : (o : Option Slot) → slice_get x.slots q.process ≡ o → WaitsAs o c q → IsReceiver o cs
    go None s e2 = absurd e2
    go (Some (slot.Here r st.Ready)) s e2 = absurd e2
    go (Some (slot.Out v r)) s e2 = absurd e2
    go (Some (slot.Here r (st.Sending d i bs))) s e2 = absurd (let g : q.way ≡ way.Send = e2.2 in cc (f, g))
    go (Some (slot.Here r (st.Receiving d i))) s e2 =
        fits.safe.sends h.proc.number q.process c j i r.target cs (config_of h.proc) (config_of r) stops
        (ap process_in e) (ap condition_in s ∙ ap (λ n. Waits (m.Receives n i r.target) (config_of r)) e2.0)
    go (Some (slot.Here r (st.Joining n))) s e2 = absurd e2
    go (Some (slot.Here r st.Laid)) s e2 = absurd e2
    go (Some slot.Ended) s e2 = absurd e2
    go (Some (slot.Here r st.Over)) s e2 = absurd e2
    go (Some (slot.Gone r)) s e2 = absurd e2
