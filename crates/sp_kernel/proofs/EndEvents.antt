-- An end: the first process is over, and a child's parent takes back from it. It leads from `specs/Ends.antt` to
-- `IsAfterGive`.
use Rattle.std.proofs.Common.{◌≡◌, ◌≢◌, ◌⊎◌, ℕ, ◌-◌, ◌<◌, ◌==◌, inl, inr, Bool, true, false, if◌then◌else◌, List, []}
use Rattle.std.proofs.Common.{◌∷◌, ◌++◌, length, Option, Some, None, slice_get, slice_set, refl, sym, ap, ◌∙◌, subst}
use Rattle.std.proofs.lemmas.List.{length-set}
use Rattle.std.proofs.lemmas.Option.{slice_get_within}
use Rattle.sp_base.proofs.Facts.{get_beside_set, get_where_set}
use Rattle.sp_cell.specs.Map.{Plain}
use Rattle.sp_journal.specs.declared.entry.Birth.{Birth}
use Rattle.sp_journal.specs.declared.entry.Event.TheVariants as event
use Rattle.sp_journal.specs.Maps.{at_key}
use Rattle.sp_journal.specs.Births.{Births, births}
use Rattle.sp_channel.specs.declared.channels.Pending.{Pending}
use Rattle.sp_code.specs.Machine as m
use Rattle.sp_code.specs.Memory.{Memory, memory}
use Rattle.sp_code.specs.PlainStore.{plain}
use Rattle.sp_code.specs.Turns.{Stopped, IsTurn}
use Rattle.sp_code.specs.Sound.{StopsAt}
use Rattle.sp_code.specs.Control.{Control, Out, Joining, Ended, comes_back, does, queues, one_fewer as control_fewer}
use Rattle.sp_code.specs.Control.{reports}
use Rattle.sp_code.specs.System.{Working, Joins as IsJoining, Over, Gone as HasGone, system_after_turn, event_of}
use Rattle.sp_code.specs.System.{process_at_entry}
use Rattle.sp_code.specs.System.{on_store, parent_after_join, apply_end}
use Rattle.sp_kernel.specs.declared.slot.Slot.{Slot}
use Rattle.sp_kernel.specs.declared.slot.Slot.TheVariants as slot
use Rattle.sp_kernel.specs.declared.slot.State.TheVariants as st
use Rattle.sp_machine.specs.declared.state.State.{State as Proc}
use Rattle.sp_kernel.specs.declared.handed.Handed.{Handed}
use Rattle.sp_machine.specs.declared.state.Stop.TheVariants as stop
use Rattle.sp_kernel.specs.declared.kernel.Kernel.{Kernel}
use Rattle.sp_kernel.specs.Procs.{config_of, turn_by, turn_of, EntersAs}
use Rattle.sp_kernel.specs.Kernels.{doing_in, condition_in, control_of, system_of}
use Rattle.sp_kernel.specs.Kernels.{code_run_of, WaitsAs, IsOwn, NumberIn}
use Rattle.sp_kernel.specs.Kernels.{parent_in, parent_of, IsKernel, kernel_after_give, IsAfterGive}
use Rattle.sp_kernel.specs.Ends.{left_in, one_fewer, ends_child, IsJoiner, JoinedSlot, TookBack}
use Rattle.sp_kernel.specs.Fits.{FitsHanded}
use Rattle.sp_code.proofs.Queues.{number_or, at_other}
use Rattle.sp_kernel.proofs.Tables.{table_set}
use Rattle.sp_kernel.proofs.KernelEvents.{event_no_fault, after_no_fault, whole_after, there, no_waiter, next_doing}
use Rattle.sp_kernel.proofs.KernelEvents.{next_condition}
use Rattle.sp_kernel.proofs.KernelEvents.{next_births, same_offers, same_numbers, parents_after}

-- ---- who joins

pub joiner : (o : Option Slot) (n : ℕ) → doing_in o ≡ Joining n → (q : Proc) × (o ≡ Some (slot.Here q (st.Joining n)))
joiner None n e = absurd (cc e)
joiner (Some (slot.Here q st.Ready)) n e = absurd (cc e)
joiner (Some (slot.Out v q)) n e = absurd (cc e)
joiner (Some (slot.Here q (st.Sending d i bs))) n e = absurd (cc e)
joiner (Some (slot.Here q (st.Receiving d i))) n e = absurd (cc e)
joiner (Some (slot.Here q (st.Joining l))) n e = let f : l ≡ n = cc e in
    (q, ap (λ j. Some (slot.Here q (st.Joining j))) f)
joiner (Some (slot.Here q st.Laid)) n e = absurd (cc e)
joiner (Some slot.Ended) n e = absurd (cc e)
joiner (Some (slot.Here q st.Over)) n e = absurd (cc e)
joiner (Some (slot.Gone q)) n e = absurd (cc e)

pub has_birth : (o : Option Birth) (q : ℕ) → parent_of o ≡ Some q → (b : Birth) × (o ≡ Some b) × (b.parent ≡ q)
has_birth None q e = absurd (cc e)
has_birth (Some b) q e = let f : b.parent ≡ q = cc e in (b, refl, f)

pub no_birth : (o : Option Birth) → parent_of o ≡ None → o ≡ None
no_birth None e = refl
no_birth (Some b) e = absurd (cc e)

module _ (x : Kernel) (k : IsKernel x) (p w : ℕ) (here : (control_of x).doing p ≡ Out w) (h : Handed)
    (is : h.stop ≡ stop.End) (no_fault : x.faulted ≡ false) (own : IsOwn (code_run_of x).input h.proc p) where
  turn_is : turn_of h ≡ Stopped m.Ends (config_of h.proc)
  turn_is = ap (λ s. turn_by s h.proc) is

  event_is : event.End ≡ event_of x.limits (system_of x) (turn_of h)
  event_is = event_no_fault x.limits (system_of x) m.Ends (config_of h.proc) no_fault refl
      ∙ ap (event_of x.limits (system_of x)) (sym turn_is)

  -- ---- the first process

  module _ (r : Proc) (en : EntersAs h.proc r) (first : (births x.journal.entries).birth p ≡ None) where
    abbrev over : Kernel
    over = record x {
      slots = slice_set x.slots p (slot.Here r st.Over);
      journal = record { entries = x.journal.entries ++ record { process = p; event = event.End } ∷ [] };
      out = x.out - 1;
    }

    over_control : control_of over ≡ comes_back p (event_of x.limits (system_of x) (turn_of h)) (control_of x)
    over_control = (λ i. record (control_of x) {
      doing = next_doing x k p w here event.End (slot.Here r st.Over) i;
      out = x.out - 1;
      births = next_births x k p w here event.End (slot.Here r st.Over) i;
    })
        ∙ ap (λ o. record (reports o (does p Ended (control_of x)))
        { out = x.out - 1; births = births x.journal.entries }) (sym first)
        ∙ ap (λ e. comes_back p e (control_of x)) event_is

    over_system : system_of over ≡ system_after_turn plain (code_run_of x) p (turn_of h) (system_of x)
    over_system = (λ i. record (system_of x) {
      condition = (next_condition x k p w here event.End (slot.Here r st.Over)
          ∙ ap (λ c. at_key ◌==◌ p (Over c) (system_of x).condition) en.0) i;
      births = next_births x k p w here event.End (slot.Here r st.Over) i;
    })
        ∙ ap (λ o. record (apply_end plain (code_run_of x) p (process_at_entry (config_of h.proc)) o (system_of x))
        { births = births x.journal.entries }) (sym first)
        ∙ after_no_fault (code_run_of x) (system_of x) p m.Ends (config_of h.proc) no_fault refl
        ∙ ap (λ t. system_after_turn plain (code_run_of x) p t (system_of x)) (sym turn_is)

    over_gave : IsAfterGive x p h over
    over_gave = record {
      control = over_control;
      system = over_system;
      code_run = (refl, refl, refl);
      entry = ap (λ e. x.journal.entries ++ record { process = p; event = e } ∷ []) event_is;
      whole = whole_after x k p w here h over over_control over_system
          (length-set x.slots p _ ∙ k.processes
          ∙ ap (λ (b : Births). b.processes) (sym (next_births x k p w here event.End (slot.Here r st.Over))))
          (k.channels ∙ ap (λ (b : Births). b.channels)
          (sym (next_births x k p w here event.End (slot.Here r st.Over))))
          (same_offers x k p w here (slot.Here r st.Over))
          (same_numbers x k p w here (slot.Here r st.Over)
          (let (_, same_number, _, same_input) = en in (same_number ∙ own.0, same_input ∙ own.1)))
          (parents_after x k p w here x.parents event.End k.parents);
    }

    pub gave_root : IsAfterGive x p h (kernel_after_give r.number event.End (slot.Here r st.Over) x)
    gave_root = subst (λ n. IsAfterGive x p h (record x {
      slots = slice_set x.slots n (slot.Here r st.Over);
      journal = record { entries = x.journal.entries ++ record { process = n; event = event.End } ∷ [] };
      out = x.out - 1;
    })) (sym (en.1 ∙ own.0)) over_gave

  -- ---- a child

  module _ (b : Birth) (born : (births x.journal.entries).birth p ≡ Some b) (n : ℕ)
      (joins : (control_of x).doing b.parent ≡ Joining n) where
    pub apart : p ≢ b.parent
    apart e = let f : Out w ≡ Joining n = sym here ∙ ap (control_of x).doing e ∙ joins in absurd (cc f)

    parent : Proc
    parent = (joiner (slice_get x.slots b.parent) n joins).0

    at_parent : slice_get x.slots b.parent ≡ Some (slot.Here parent (st.Joining n))
    unfolding parent
    at_parent = (joiner (slice_get x.slots b.parent) n joins).1

    pub parent_there : b.parent < length x.slots
    parent_there = slice_get_within x.slots b.parent _ at_parent

    joins_now : (does p Ended (control_of x)).doing b.parent ≡ Joining n
    joins_now = at_other (control_of x).doing p b.parent Ended apart ∙ joins

    module _ (t : Slot) (took : JoinedSlot (slice_get x.slots b.parent) h.proc t) where
      told : JoinedSlot (Some (slot.Here parent (st.Joining n))) h.proc t
      told = subst (λ o. JoinedSlot o h.proc t) at_parent took

      took_back : TookBack parent h.proc told.0
      took_back = told.2

      abbrev z : ℕ
      z = b.parent

      parent_now : z < length (slice_set x.slots p slot.Ended)
      parent_now = subst (λ l. z < l) (sym (length-set x.slots p slot.Ended)) parent_there

      both_set : {X : Type 0} (f : Option Slot → X)
          → ◌≡◌ {A = ℕ → X} (λ q. f (slice_get (slice_set (slice_set x.slots p slot.Ended) z t) q))
          (at_key ◌==◌ z (f (Some (slot.Here told.0 (one_fewer n))))
          (at_key ◌==◌ p (f (Some slot.Ended)) (λ q. f (slice_get x.slots q))))
      both_set f = table_set f (slice_set x.slots p slot.Ended) z t parent_now
          ∙ ap (λ s. at_key ◌==◌ z (f (Some s)) (λ q. f (slice_get (slice_set x.slots p slot.Ended) q))) told.1
          ∙ ap (λ m. at_key ◌==◌ z (f (Some (slot.Here told.0 (one_fewer n)))) m)
          (table_set f x.slots p slot.Ended (there x k p w here))

      abbrev ended : Kernel
      ended = ends_child p z t x

      control_by : (c : Bool) → ◌≡◌ {A = Control} (record (control_of x) {
        doing = at_key ◌==◌ z (doing_in (Some (slot.Here told.0 (if c then st.Ready else st.Joining (n - 1)))))
            (at_key ◌==◌ p Ended (control_of x).doing);
        ready = if c then x.ready ++ z ∷ [] else x.ready;
        out = x.out - 1;
        births = births x.journal.entries;
      }) (record (if c then queues z (does p Ended (control_of x)) else
          does z (Joining (n - 1)) (does p Ended (control_of x)))
          { out = x.out - 1; births = births x.journal.entries })
      control_by true = refl
      control_by false = refl

      ended_control : control_of ended ≡ comes_back p (event_of x.limits (system_of x) (turn_of h)) (control_of x)
      ended_control = (λ i. record (control_of x) {
        doing = both_set doing_in i;
        ready = if left_in (at_parent i) == 1 then x.ready ++ z ∷ [] else x.ready;
        out = x.out - 1;
        births = next_births x k p w here event.End slot.Ended i;
      })
          ∙ control_by (n == 1)
          ∙ ap (λ d. record (control_fewer z d (does p Ended (control_of x)))
          { out = x.out - 1; births = births x.journal.entries }) (sym joins_now)
          ∙ ap (λ o. record (reports o (does p Ended (control_of x)))
          { out = x.out - 1; births = births x.journal.entries }) (sym born)
          ∙ ap (λ e. comes_back p e (control_of x)) event_is

      abbrev joined : m.Config (Memory Plain)
      joined = on_store (λ m. plain.joined m h.proc.store) (config_of parent)

      condition_by : (c : Bool) → condition_in (Some (slot.Here told.0 (if c then st.Ready else st.Joining (n - 1))))
          ≡ (if c then Working joined else IsJoining (n - 1) joined)
      condition_by true = ap (λ d. Working d) took_back.0
      condition_by false = ap (λ d. IsJoining (n - 1) d) took_back.0

      ended_system : system_of ended ≡ system_after_turn plain (code_run_of x) p (turn_of h) (system_of x)
      ended_system = (λ i. record (system_of x) {
        condition = (both_set condition_in ∙ ap (λ c. at_key ◌==◌ z c (at_key ◌==◌ p HasGone (system_of x).condition))
            (condition_by (n == 1))
            ∙ ap (λ o. at_key ◌==◌ z (parent_after_join plain (code_run_of x) (process_at_entry (config_of h.proc))
            (condition_in o))
            (at_key ◌==◌ p HasGone (system_of x).condition)) (sym at_parent)) i;
        births = next_births x k p w here event.End slot.Ended i;
      })
          ∙ ap (λ o. record (apply_end plain (code_run_of x) p (process_at_entry (config_of h.proc)) o (system_of x))
          { births = births x.journal.entries }) (sym born)
          ∙ after_no_fault (code_run_of x) (system_of x) p m.Ends (config_of h.proc) no_fault refl
          ∙ ap (λ t. system_after_turn plain (code_run_of x) p t (system_of x)) (sym turn_is)

      ended_offers : (c : ℕ) (o : Pending) → slice_get x.channels c ≡ Some (Some o)
          → WaitsAs (slice_get (slice_set (slice_set x.slots p slot.Ended) z t) o.process) c o
      ended_offers c o e =
          let waits = k.offers c o e in
          let not_p : p ≢ o.process = λ q. no_waiter x k p w here c o e (sym q) in
          let not_z : z ≢ o.process = λ q. let f : WaitsAs (Some (slot.Here parent (st.Joining n))) c o =
          subst (λ s. WaitsAs s c o) at_parent (subst (λ i. WaitsAs (slice_get x.slots i) c o) (sym q) waits) in
          f in
          subst (λ s. WaitsAs s c o) (sym (get_beside_set (slice_set x.slots p slot.Ended) z o.process t not_z
          ∙ get_beside_set x.slots p o.process slot.Ended not_p)) waits

      abbrev input : List ℕ
      input = (code_run_of x).input

      own_parent : IsOwn input parent z
      own_parent = subst (λ o. NumberIn input o z) at_parent (k.numbers z)

      number_by : (c : Bool) → NumberIn input (Some (slot.Here told.0 (if c then st.Ready else st.Joining (n - 1)))) z
      number_by true = (took_back.1 ∙ own_parent.0, took_back.2 ∙ own_parent.1)
      number_by false = (took_back.1 ∙ own_parent.0, took_back.2 ∙ own_parent.1)

      ended_numbers : (q : ℕ) → NumberIn input (slice_get (slice_set (slice_set x.slots p slot.Ended) z t) q) q
      ended_numbers q = go (number_or z q)
        where
          go : (z ≡ q) ⊎ ((z ≢ q) × (z == q ≡ false))
              → NumberIn input (slice_get (slice_set (slice_set x.slots p slot.Ended) z t) q) q
          go (inl e) = subst (λ j. NumberIn input (slice_get (slice_set (slice_set x.slots p slot.Ended) z t) j) j) e
              (subst (λ s. NumberIn input s z)
              (sym (get_where_set (slice_set x.slots p slot.Ended) z t parent_now ∙ ap (λ s. Some s) told.1))
              (number_by (n == 1)))
          go (inr o) = subst (λ s. NumberIn input s q) (sym (get_beside_set (slice_set x.slots p slot.Ended) z q t o.0))
              (same_numbers x k p w here slot.Ended (tt {0}) q)

      pub gave_child : IsAfterGive x p h (ends_child p b.parent t x)
      gave_child = record {
        control = ended_control;
        system = ended_system;
        code_run = (refl, refl, refl);
        entry = ap (λ e. x.journal.entries ++ record { process = p; event = e } ∷ []) event_is;
        whole = whole_after x k p w here h ended ended_control ended_system
            (length-set (slice_set x.slots p slot.Ended) z t ∙ length-set x.slots p slot.Ended ∙ k.processes
            ∙ ap (λ (b : Births). b.processes) (sym (next_births x k p w here event.End slot.Ended)))
            (k.channels ∙ ap (λ (b : Births). b.channels) (sym (next_births x k p w here event.End slot.Ended)))
            ended_offers ended_numbers (parents_after x k p w here x.parents event.End k.parents);
      }

-- ---- at the call

-- who has this parent, which joins
pub record IsChild (x : Kernel) (p z : ℕ) : Type 0 where
  pub birth : Birth
  pub born : (births x.journal.entries).birth p ≡ Some birth
  pub parent : birth.parent ≡ z
  pub left : ℕ
  pub joins : (control_of x).doing birth.parent ≡ Joining left

pub is_child : (x : Kernel) (k : IsKernel x) (w : ℕ) (h : Handed) → FitsHanded x w h → (z : ℕ)
    → parent_in (slice_get x.parents h.proc.number) ≡ Some z → IsChild x h.proc.number z
is_child x k w h fits z e =
    let b = has_birth ((births x.journal.entries).birth h.proc.number) z (sym (k.parents.each h.proc.number) ∙ e) in
    let j = fits.parent b.0 b.1 in
    record { birth = b.0; born = b.1; parent = b.2; left = j.0; joins = j.1 }

pub child_joins : (x : Kernel) (k : IsKernel x) (w : ℕ) (h : Handed) → h.stop ≡ stop.End → x.faulted ≡ false
    → FitsHanded x w h → (z : ℕ) → IsChild x h.proc.number z → IsJoiner (slice_get x.slots z) h.proc
child_joins x k w h is no_fault fits z c = subst (λ i. IsJoiner (slice_get x.slots i) h.proc) c.parent
    (go (joiner (slice_get x.slots c.birth.parent) c.left c.joins))
  where
    stops : StopsAt (code_run_of x) (system_of x) h.proc.number m.Ends (config_of h.proc)
    stops = record {
      configuration = fits.configuration;
      runs = fits.runs;
      turn = subst (λ t. IsTurn (memory plain (code_run_of x)) (code_run_of x).code fits.configuration t)
          (ap (λ s. turn_by s h.proc) is) fits.turn;
      no_fault = no_fault;
      fine = refl;
    }

    go : (q : Proc) × (slice_get x.slots c.birth.parent ≡ Some (slot.Here q (st.Joining c.left)))
        → IsJoiner (slice_get x.slots c.birth.parent) h.proc
    go (q, e) = subst (λ o. IsJoiner o h.proc) (sym e)
        (fits.safe.ends h.proc.number c.left c.birth (config_of h.proc) (config_of q) stops c.born (ap condition_in e))

pub gave_end : (x : Kernel) (k : IsKernel x) (w : ℕ) (h : Handed) → h.stop ≡ stop.End → x.faulted ≡ false
    → FitsHanded x w h
    → (z : ℕ) → IsChild x h.proc.number z → (t : Slot) → JoinedSlot (slice_get x.slots z) h.proc t
    → IsAfterGive x h.proc.number h (ends_child h.proc.number z t x)
gave_end x k w h is no_fault fits z c t took =
    subst (λ i. IsAfterGive x h.proc.number h (ends_child h.proc.number i t x)) c.parent
    (gave_child x k h.proc.number w fits.out h is no_fault (refl, fits.input) c.birth c.born c.left c.joins t
    (subst (λ i. JoinedSlot (slice_get x.slots i) h.proc t) (sym c.parent) took))

pub child_apart : (x : Kernel) (k : IsKernel x) (w : ℕ) (h : Handed) → h.stop ≡ stop.End → x.faulted ≡ false
    → FitsHanded x w h → (z : ℕ) → IsChild x h.proc.number z → h.proc.number ≢ z
child_apart x k w h is no_fault fits z c e = apart x k h.proc.number w fits.out h is no_fault (refl, fits.input) c.birth
    c.born c.left c.joins (e ∙ sym c.parent)

pub child_there : (x : Kernel) (k : IsKernel x) (w : ℕ) (h : Handed) → h.stop ≡ stop.End → x.faulted ≡ false
    → FitsHanded x w h → (z : ℕ) → IsChild x h.proc.number z → z < length x.slots
child_there x k w h is no_fault fits z c = subst (λ i. i < length x.slots) c.parent
    (parent_there x k h.proc.number w fits.out h is no_fault (refl, fits.input) c.birth c.born c.left c.joins)
