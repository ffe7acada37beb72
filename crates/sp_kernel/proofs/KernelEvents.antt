-- What the kernel's tables come to is the event of the definitions: from the tables after an event to `IsAfterGive`.
use Rattle.std.proofs.Common.{◌≡◌, ◌≢◌, ◌⊎◌, ℕ, ◌-◌, ◌<◌, ◌==◌, inl, inr, Bool, true, false, if◌then◌else◌, List, []}
use Rattle.std.proofs.Common.{◌∷◌, ◌++◌, length, Option, Some, None, slice_get, slice_set, refl, sym, ap, ◌∙◌, subst}
use Rattle.std.proofs.lemmas.List.{length-set}
use Rattle.std.proofs.lemmas.Option.{slice_get_within}
use Rattle.sp_base.specs.declared.fault.Fault.{Fault}
use Rattle.sp_base.specs.declared.limits.Limits.{Limits}
use Rattle.sp_base.proofs.Facts.{get_beside_set, get_where_set}
use Rattle.sp_cell.specs.Map.{Plain}
use Rattle.sp_journal.specs.declared.entry.Event.{Event}
use Rattle.sp_journal.specs.declared.entry.Event.TheVariants as event
use Rattle.sp_journal.specs.Maps.{at_key}
use Rattle.sp_journal.specs.Births.{Births, births, births_after_event}
use Rattle.sp_journal.proofs.BirthLaws.{births_last}
use Rattle.sp_channel.specs.declared.channels.Pending.{Pending}
use Rattle.sp_code.specs.Machine as m
use Rattle.sp_code.specs.Memory.{CodeRun, Memory}
use Rattle.sp_code.specs.PlainStore.{plain}
use Rattle.sp_code.specs.Turns.{Turn, Stopped}
use Rattle.sp_code.specs.Control.{Doing, Out, comes_back}
use Rattle.sp_code.specs.System.{System, Condition, Working, Laid as IsLaid, config_of as config_at, event_at, event_or}
use Rattle.sp_code.specs.System.{system_after_turn, event_of, process_at_entry, fault_of, lays, apply_unless_fault}
use Rattle.sp_code.specs.System.{apply_stop}
use Rattle.sp_kernel.specs.declared.slot.Slot.{Slot}
use Rattle.sp_kernel.specs.declared.slot.Slot.TheVariants as slot
use Rattle.sp_kernel.specs.declared.slot.State.TheVariants as st
use Rattle.sp_machine.specs.declared.state.State.{State as Proc}
use Rattle.sp_kernel.specs.declared.handed.Handed.{Handed}
use Rattle.sp_machine.specs.declared.state.Stop.{Stop}
use Rattle.sp_machine.specs.declared.state.Stop.TheVariants as stop
use Rattle.sp_kernel.specs.declared.kernel.Kernel.{Kernel}
use Rattle.sp_kernel.specs.Procs.{config_of, turn_by, turn_of, EntersAs}
use Rattle.sp_kernel.specs.Kernels.{doing_in, condition_in, control_of, system_of}
use Rattle.sp_kernel.specs.Kernels.{code_run_of, WaitsAs, IsOwn, NumberIn}
use Rattle.sp_kernel.specs.Kernels.{HasParents, IsKernel, kernel_after_give, IsAfterGive}
use Rattle.sp_code.specs.Agreement.{IsOrderly, AgreesWithSystem}
use Rattle.sp_code.proofs.Queues.{number_or}
use Rattle.sp_kernel.proofs.Tables.{table_set}
use Rattle.sp_code.proofs.Orders.{orderly_back}
use Rattle.sp_code.proofs.ControlAgreement.{agrees_after}

-- ---- what an event comes to, by its case

pub turn_config : (s : Stop) (q : Proc) → config_at (turn_by s q) ≡ config_of q
turn_config (stop.Fork t v n) q = refl
turn_config _ _ = refl

module _ (lim : Limits) (s : System Plain) where
  pub event_laid : (t : Turn (Memory Plain)) → s.faulted ≡ true → event.Laid ≡ event_of lim s t
  event_laid t f = rw f refl

  pub event_fault : (t : Turn (Memory Plain)) (g : Fault) → s.faulted ≡ false → fault_of lim s t ≡ Some g
      → event.Fault g ≡ event_of lim s t
  event_fault t g f is = go s.faulted f (fault_of lim s t) is
    where
      go : (b : Bool) → b ≡ false → (o : Option Fault) → o ≡ Some g
          → event.Fault g ≡ (if b then event.Laid else event_or o t)
      go true e o i = absurd (cc e)
      go false e None i = absurd (cc i)
      go false e (Some h) i = let same : g ≡ h = cc i in ap event.Fault same

  pub event_no_fault : (stop : m.Stop) (c : m.Config (Memory Plain)) → s.faulted ≡ false
      → fault_of lim s (Stopped stop c) ≡ None → event_at stop ≡ event_of lim s (Stopped stop c)
  event_no_fault stop c f is = go s.faulted f (fault_of lim s (Stopped stop c)) is
    where
      go : (b : Bool) → b ≡ false → (o : Option Fault) → o ≡ None
          → event_at stop ≡ (if b then event.Laid else event_or o (Stopped stop c))
      go true e o i = absurd (cc e)
      go false e (Some h) i = absurd (cc i)
      go false e None i = refl

module _ (g : CodeRun) (s : System Plain) (p : ℕ) where
  pub after_laid : (t : Turn (Memory Plain)) → s.faulted ≡ true
      → ◌≡◌ {A = System Plain}
      (record (lays plain g p (config_at t) s) { births = births_after_event s.births p event.Laid })
      (system_after_turn plain g p t s)
  after_laid t f = go s.faulted f
    where
      go : (b : Bool) → b ≡ true → ◌≡◌ {A = System Plain}
          (record (lays plain g p (config_at t) s) { births = births_after_event s.births p event.Laid })
          (record (if b then lays plain g p (config_at t) s else apply_unless_fault plain g
          (fault_of g.limits s t) p t s)
          { births = births_after_event s.births p (if b then event.Laid else event_or (fault_of g.limits s t) t) })
      go true e = refl
      go false e = absurd (cc e)

  pub after_fault : (t : Turn (Memory Plain)) (x : Fault) → s.faulted ≡ false → fault_of g.limits s t ≡ Some x
      → ◌≡◌ {A = System Plain} (record (lays plain g p (config_at t) s)
      { faulted = true; births = births_after_event s.births p (event.Fault x) }) (system_after_turn plain g p t s)
  after_fault t x f is = go s.faulted f (fault_of g.limits s t) is
    where
      go : (b : Bool) → b ≡ false → (o : Option Fault) → o ≡ Some x
          → ◌≡◌ {A = System Plain} (record (lays plain g p (config_at t) s)
          { faulted = true; births = births_after_event s.births p (event.Fault x) })
          (record (if b then lays plain g p (config_at t) s else apply_unless_fault plain g o p t s)
          { births = births_after_event s.births p (if b then event.Laid else event_or o t) })
      go true e o i = absurd (cc e)
      go false e None i = absurd (cc i)
      go false e (Some h) i = refl

  pub after_no_fault : (stop : m.Stop) (c : m.Config (Memory Plain)) → s.faulted ≡ false
      → fault_of g.limits s (Stopped stop c) ≡ None
      → ◌≡◌ {A = System Plain} (record (apply_stop plain g p stop (process_at_entry c) s)
      { births = births_after_event s.births p (event_at stop) }) (system_after_turn plain g p (Stopped stop c) s)
  after_no_fault stop c f is = go s.faulted f (fault_of g.limits s (Stopped stop c)) is
    where
      go : (b : Bool) → b ≡ false → (o : Option Fault) → o ≡ None
          → ◌≡◌ {A = System Plain} (record (apply_stop plain g p stop (process_at_entry c) s)
          { births = births_after_event s.births p (event_at stop) })
          (record (if b then lays plain g p c s else apply_unless_fault plain g o p (Stopped stop c) s)
          { births = births_after_event s.births p (if b then event.Laid else event_or o (Stopped stop c)) })
      go true e o i = absurd (cc e)
      go false e (Some h) i = absurd (cc i)
      go false e None i = refl

module _ (x : Kernel) (k : IsKernel x) (p w : ℕ) (here : (control_of x).doing p ≡ Out w) where
  -- the tables fit together after it too
  pub whole_after : (h : Handed) (y : Kernel)
      → control_of y ≡ comes_back p (event_of x.limits (system_of x) (turn_of h)) (control_of x)
      → system_of y ≡ system_after_turn plain (code_run_of x) p (turn_of h) (system_of x)
      → length y.slots ≡ (births y.journal.entries).processes → length y.channels ≡ (births y.journal.entries).channels
      → ((c : ℕ) (o : Pending) → slice_get y.channels c ≡ Some (Some o) → WaitsAs (slice_get y.slots o.process) c o)
      → ((q : ℕ) → NumberIn (code_run_of y).input (slice_get y.slots q) q)
      → HasParents y.parents (births y.journal.entries) → IsKernel y
  whole_after h y control system processes channels offers numbers parents = record {
    numbers = numbers;
    parents = parents;
    orderly = subst IsOrderly (sym control) (orderly_back (control_of x) k.orderly p w
        (event_of x.limits (system_of x) (turn_of h)) here);
    agrees = subst (λ c. AgreesWithSystem c (system_of y)) (sym control)
        (subst (λ s. AgreesWithSystem (comes_back p (event_of x.limits (system_of x) (turn_of h)) (control_of x)) s)
        (sym system)
        (agrees_after plain (code_run_of x) (control_of x) (system_of x) k.orderly k.agrees p w here (turn_of h)));
    processes = processes;
    channels = channels;
    offers = offers;
  }

  pub there : p < length x.slots
  there = go (slice_get x.slots p) refl here
    where
      go : (o : Option Slot) → slice_get x.slots p ≡ o → doing_in o ≡ Out w → p < length x.slots
      go None e f = absurd (cc f)
      go (Some s) e f = slice_get_within x.slots p s e

  -- nobody that waits is out
  pub no_waiter : (c : ℕ) (o : Pending) → slice_get x.channels c ≡ Some (Some o) → o.process ≢ p
  no_waiter c o e is = go (slice_get x.slots p) (subst (λ q. WaitsAs (slice_get x.slots q) c o) is (k.offers c o e))
      here
    where
      go : (s : Option Slot) → WaitsAs s c o → doing_in s ≡ Out w → ⊥
      go None a f = absurd a
      go (Some (slot.Here r st.Ready)) a f = absurd a
      go (Some (slot.Out v r)) a f = absurd a
      go (Some (slot.Here r (st.Sending d j cs))) a f = absurd (cc f)
      go (Some (slot.Here r (st.Receiving d j))) a f = absurd (cc f)
      go (Some (slot.Here r (st.Joining n))) a f = absurd a
      go (Some (slot.Here r st.Laid)) a f = absurd a
      go (Some slot.Ended) a f = absurd a
      go (Some (slot.Here r st.Over)) a f = absurd a
      go (Some (slot.Gone r)) a f = absurd a

  -- the offers on the channels are those of other processes
  pub same_offers : (s : Slot) (c : ℕ) (o : Pending) → slice_get x.channels c ≡ Some (Some o)
      → WaitsAs (slice_get (slice_set x.slots p s) o.process) c o
  same_offers s c o e = subst (λ t. WaitsAs t c o)
      (sym (get_beside_set x.slots p o.process s (λ is. no_waiter c o e (sym is)))) (k.offers c o e)

  pub same_numbers : (s : Slot) → NumberIn (code_run_of x).input (Some s) p → (q : ℕ)
      → NumberIn (code_run_of x).input (slice_get (slice_set x.slots p s) q) q
  same_numbers s n q = go (number_or p q)
    where
      go : (p ≡ q) ⊎ ((p ≢ q) × (p == q ≡ false))
          → NumberIn (code_run_of x).input (slice_get (slice_set x.slots p s) q) q
      go (inl is) = subst (λ j. NumberIn (code_run_of x).input (slice_get (slice_set x.slots p s) j) j) is
          (subst (λ t. NumberIn (code_run_of x).input t p) (sym (get_where_set x.slots p s there)) n)
      go (inr o) = subst (λ t. NumberIn (code_run_of x).input t q) (sym (get_beside_set x.slots p q s o.0))
          (k.numbers q)

  module _ (e : Event) (s : Slot) where
    pub next_doing : ◌≡◌ {A = ℕ → Doing} (λ q. doing_in (slice_get (slice_set x.slots p s) q))
        (at_key ◌==◌ p (doing_in (Some s)) (control_of x).doing)
    next_doing = table_set doing_in x.slots p s there

    pub next_condition : ◌≡◌ {A = ℕ → Condition Plain} (λ q. condition_in (slice_get (slice_set x.slots p s) q))
        (at_key ◌==◌ p (condition_in (Some s)) (system_of x).condition)
    next_condition = table_set condition_in x.slots p s there

    pub next_births : births (x.journal.entries ++ record { process = p; event = e } ∷ [])
        ≡ births_after_event (births x.journal.entries) p e
    next_births = births_last x.journal.entries (record { process = p; event = e })

  -- the parents by the births after an entry
  pub parents_after : (ps : List (Option ℕ)) (e : Event)
      → HasParents ps (births_after_event (births x.journal.entries) p e)
      → HasParents ps (births (x.journal.entries ++ record { process = p; event = e } ∷ []))
  parents_after ps e h = subst (HasParents ps) (sym (births_last x.journal.entries (record { process = p; event = e })))
      h

  -- a process that is laid down, where a fault stands or its own is met
  module _ (h : Handed) (e : Event) where
    laid_condition : ◌≡◌ {A = ℕ → Condition Plain}
        (λ q. condition_in (slice_get (slice_set x.slots p (slot.Here h.proc st.Laid)) q))
        (at_key ◌==◌ p (IsLaid (config_at (turn_of h))) (system_of x).condition)
    laid_condition = next_condition e (slot.Here h.proc st.Laid)
        ∙ ap (λ c. at_key ◌==◌ p (IsLaid c) (system_of x).condition) (sym (turn_config h.stop h.proc))

  pub gave_laid : (h : Handed) → IsOwn (code_run_of x).input h.proc p → x.faulted ≡ true
      → IsAfterGive x p h (kernel_after_give p event.Laid (slot.Here h.proc st.Laid) x)
  gave_laid h num f = record {
    control = control;
    system = system;
    code_run = (refl, refl, refl);
    entry = ap (λ e. x.journal.entries ++ record { process = p; event = e } ∷ [])
        (event_laid x.limits (system_of x) (turn_of h) f);
    whole = whole_after h _ control system
        (length-set x.slots p (slot.Here h.proc st.Laid) ∙ k.processes
        ∙ ap (λ (b : Births). b.processes) (sym (next_births event.Laid (slot.Here h.proc st.Laid))))
        (k.channels ∙ ap (λ (b : Births). b.channels) (sym (next_births event.Laid (slot.Here h.proc st.Laid))))
        (same_offers (slot.Here h.proc st.Laid)) (same_numbers (slot.Here h.proc st.Laid) num)
        (parents_after x.parents event.Laid k.parents);
  }
    where
      control : control_of (kernel_after_give p event.Laid (slot.Here h.proc st.Laid) x)
          ≡ comes_back p (event_of x.limits (system_of x) (turn_of h)) (control_of x)
      control = (λ i. record (control_of x) {
        doing = next_doing event.Laid (slot.Here h.proc st.Laid) i;
        out = x.out - 1;
        births = next_births event.Laid (slot.Here h.proc st.Laid) i;
      })
          ∙ ap (λ e. comes_back p e (control_of x)) (event_laid x.limits (system_of x) (turn_of h) f)

      system : system_of (kernel_after_give p event.Laid (slot.Here h.proc st.Laid) x)
          ≡ system_after_turn plain (code_run_of x) p (turn_of h) (system_of x)
      system = (λ i. record (system_of x) {
        condition = laid_condition h event.Laid i;
        births = next_births event.Laid (slot.Here h.proc st.Laid) i;
      })
          ∙ after_laid (code_run_of x) (system_of x) p (turn_of h) f

  pub gave_fault : (h : Handed) (g : Fault) → IsOwn (code_run_of x).input h.proc p → x.faulted ≡ false
      → fault_of x.limits (system_of x) (turn_of h) ≡ Some g
      → IsAfterGive x p h (record (kernel_after_give p (event.Fault g) (slot.Here h.proc st.Laid) x) { faulted = true })
  gave_fault h g num f is = record {
    control = control;
    system = system;
    code_run = (refl, refl, refl);
    entry = ap (λ e. x.journal.entries ++ record { process = p; event = e } ∷ [])
        (event_fault x.limits (system_of x) (turn_of h) g f is);
    whole = whole_after h _ control system
        (length-set x.slots p (slot.Here h.proc st.Laid) ∙ k.processes
        ∙ ap (λ (b : Births). b.processes) (sym (next_births (event.Fault g) (slot.Here h.proc st.Laid))))
        (k.channels ∙ ap (λ (b : Births). b.channels) (sym (next_births (event.Fault g) (slot.Here h.proc st.Laid))))
        (same_offers (slot.Here h.proc st.Laid)) (same_numbers (slot.Here h.proc st.Laid) num)
        (parents_after x.parents (event.Fault g) k.parents);
  }
    where
      control : control_of (record (kernel_after_give p (event.Fault g) (slot.Here h.proc st.Laid) x) {
        faulted =
            true;
      })
          ≡ comes_back p (event_of x.limits (system_of x) (turn_of h)) (control_of x)
      control = (λ i. record (control_of x) {
        doing = next_doing (event.Fault g) (slot.Here h.proc st.Laid) i;
        out = x.out - 1;
        births = next_births (event.Fault g) (slot.Here h.proc st.Laid) i;
        faulted = true;
      })
          ∙ ap (λ e. comes_back p e (control_of x)) (event_fault x.limits (system_of x) (turn_of h) g f is)

      system : system_of (record (kernel_after_give p (event.Fault g) (slot.Here h.proc st.Laid) x) { faulted = true })
          ≡ system_after_turn plain (code_run_of x) p (turn_of h) (system_of x)
      system = (λ i. record (system_of x) {
        condition = laid_condition h (event.Fault g) i;
        births = next_births (event.Fault g) (slot.Here h.proc st.Laid) i;
        faulted = true;
      })
          ∙ after_fault (code_run_of x) (system_of x) p (turn_of h) g f is

  pub gave_pause : (h : Handed) (r : Proc) → IsOwn (code_run_of x).input h.proc p → h.stop ≡ stop.Pause
      → EntersAs h.proc r
      → x.faulted ≡ false → IsAfterGive x p h (record (kernel_after_give p event.Pause (slot.Here r st.Ready) x)
      { ready = x.ready ++ p ∷ [] })
  gave_pause h r num is en f = record {
    control = control;
    system = system;
    code_run = (refl, refl, refl);
    entry = ap (λ e. x.journal.entries ++ record { process = p; event = e } ∷ [])
        (event_no_fault x.limits (system_of x) m.Pauses (config_of h.proc) f refl
        ∙ ap (event_of x.limits (system_of x)) (sym turn_is));
    whole = whole_after h _ control system
        (length-set x.slots p (slot.Here r st.Ready) ∙ k.processes
        ∙ ap (λ (b : Births). b.processes) (sym (next_births event.Pause (slot.Here r st.Ready))))
        (k.channels ∙ ap (λ (b : Births). b.channels) (sym (next_births event.Pause (slot.Here r st.Ready))))
        (same_offers (slot.Here r st.Ready)) (same_numbers (slot.Here r st.Ready)
        (let (_, same_number, _, same_input) = en in (same_number ∙ num.0, same_input ∙ num.1)))
        (parents_after x.parents event.Pause k.parents);
  }
    where
      turn_is : turn_of h ≡ Stopped m.Pauses (config_of h.proc)
      turn_is = ap (λ s. turn_by s h.proc) is

      control : control_of (record (kernel_after_give p event.Pause (slot.Here r st.Ready) x) {
        ready =
            x.ready ++ p ∷ [];
      })
          ≡ comes_back p (event_of x.limits (system_of x) (turn_of h)) (control_of x)
      control = (λ i. record (control_of x) {
        doing = next_doing event.Pause (slot.Here r st.Ready) i;
        ready = x.ready
            ++ p ∷ [];
        out = x.out - 1;
        births = next_births event.Pause (slot.Here r st.Ready) i;
      })
          ∙ ap (λ e. comes_back p e (control_of x))
          (event_no_fault x.limits (system_of x) m.Pauses (config_of h.proc) f refl
          ∙ ap (event_of x.limits (system_of x)) (sym turn_is))

      system : system_of (record (kernel_after_give p event.Pause (slot.Here r st.Ready) x) {
        ready =
            x.ready ++ p ∷ [];
      })
          ≡ system_after_turn plain (code_run_of x) p (turn_of h) (system_of x)
      system = (λ i. record (system_of x) {
        condition =
            (next_condition event.Pause (slot.Here r st.Ready)
            ∙ ap (λ c. at_key ◌==◌ p (Working c) (system_of x).condition) en.0) i;
        births = next_births event.Pause (slot.Here r st.Ready) i;
      })
          ∙ after_no_fault (code_run_of x) (system_of x) p m.Pauses (config_of h.proc) f refl
          ∙ ap (λ t. system_after_turn plain (code_run_of x) p t (system_of x)) (sym turn_is)
