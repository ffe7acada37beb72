-- An open: it has its number, or it is a fault. It leads from `specs/Opens.antt` to `IsAfterGive`.
use Rattle.std.proofs.Common.{◌≡◌, ℕ, zero, suc, ◌+◌, ◌-◌, ◌≤◌, ◌==◌, true, false, nat_lt, List, [], ◌∷◌, ◌++◌, length}
use Rattle.std.proofs.Common.{length-append, Option, Some, None, slice_get, slice_set, refl, sym, ap, ◌∙◌, subst}
use Rattle.std.proofs.lemmas.Bool.{leb-true}
use Rattle.std.proofs.Math.Path.{fun_ext}
use Rattle.std.proofs.lemmas.List.{length-set}
use Rattle.sp_base.specs.declared.limits.Limits.{Limits}
use Rattle.sp_base.specs.declared.fault.Fault.TheVariants as fault
use Rattle.sp_cell.specs.declared.cell.Cell.{Cell}
use Rattle.sp_cell.specs.declared.cell.Cell.TheVariants as cell
use Rattle.sp_cell.specs.declared.spot.Address.{Address}
use Rattle.sp_cell.specs.Map.{Plain, Own, IsOwn as IsOwnPiece, cells_of}
use Rattle.sp_cell.proofs.Laws.{get_here}
use Rattle.sp_journal.specs.declared.entry.Way.{Way}
use Rattle.sp_journal.specs.declared.entry.Event.TheVariants as event
use Rattle.sp_journal.specs.Maps.{at_key}
use Rattle.sp_journal.specs.Births.{Births, births}
use Rattle.sp_channel.specs.declared.channels.Pending.{Pending}
use Rattle.sp_code.specs.declared.code.Parts.{Parts}
use Rattle.sp_code.specs.Machine as m
use Rattle.sp_code.specs.Memory.{put_cell, CodeRun, Memory, memory, cells_at, has_cells}
use Rattle.sp_code.specs.PlainStore.{plain}
use Rattle.sp_code.specs.Turns.{Stopped, IsTurn}
use Rattle.sp_code.specs.Sound.{CanPut}
use Rattle.sp_code.specs.Control.{Out, comes_back}
use Rattle.sp_code.specs.System.{System, Working, system_after_turn, event_of, process_at_entry, on_store, fault_of}
use Rattle.sp_code.specs.Channels.{CellHas, CellsHave, EntriesHave, ConfigHas}
use Rattle.sp_code.proofs.OperationLaws.{HasKeeping, turn_does}
use Rattle.sp_kernel.specs.declared.slot.Slot.TheVariants as slot
use Rattle.sp_kernel.specs.declared.slot.State.TheVariants as st
use Rattle.sp_machine.specs.declared.state.State.{State as Proc}
use Rattle.sp_kernel.specs.declared.handed.Handed.{Handed}
use Rattle.sp_machine.specs.declared.state.Stop.TheVariants as stop
use Rattle.sp_kernel.specs.declared.kernel.Kernel.{Kernel}
use Rattle.sp_kernel.specs.Procs.{config_of, turn_by, turn_of}
use Rattle.sp_kernel.specs.Kernels.{offer_in, process_in, control_of, system_of, code_run_of, WaitsAs, IsKernel}
use Rattle.sp_kernel.specs.Kernels.{IsAfterGive}
use Rattle.sp_kernel.specs.Opens.{kernel_after_open, EntersAt}
use Rattle.sp_kernel.proofs.KernelEvents.{event_no_fault, after_no_fault, whole_after, next_doing, next_condition}
use Rattle.sp_kernel.proofs.KernelEvents.{next_births}
use Rattle.sp_kernel.proofs.KernelEvents.{same_offers, same_numbers, parents_after}

-- ---- where the channel goes is a piece of the process's own

abbrev Any : ℕ → Type 0
Any c = Unit {0}

abbrev Every : Memory Plain → Type 0
Every n = Unit {0}

-- so many cells fit there
abbrev FitsCells : ℕ → Address → Memory Plain → Type 0
FitsCells k a n = (cs : List Cell) → length cs ≡ k → CanPut n.store a cs

any_cell : (c : Cell) → CellHas Any c
any_cell cell.Undefined = tt
any_cell (cell.Ordinal v) = tt
any_cell (cell.Channel c) = tt

any_cells : (cs : List Cell) → CellsHave Any cs
any_cells [] = tt
any_cells (c ∷ cs) = (any_cell c, any_cells cs)

any_entry : (e : m.Entry) → Rattle.sp_code.specs.Channels.EntryHas Any e
any_entry (m.Cells cs) = any_cells cs
any_entry _ = tt

any_entries : (es : List m.Entry) → EntriesHave Any es
any_entries [] = tt
any_entries (e ∷ es) = (any_entry e, any_entries es)

any_config : (c : m.Config (Memory Plain)) → ConfigHas Any Every c
any_config (m.At pc st n) = (any_entries st, tt)

enough : (o : Option (List Cell)) (k n : ℕ) → has_cells o k n ≡ true → (cs : List Cell) × (o ≡ Some cs)
    × (k + n ≤ length cs)
enough None k n e = absurd (cc e)
enough (Some cs) k n e = (cs, refl, leb-true (k + n) (length cs) e)

module _ (g : CodeRun) where
  takes : (a : Address) (k : ℕ) (n : Memory Plain) → (memory plain g).has a k n ≡ true
      → FitsCells k a ((memory plain g).make_own a n)
  takes a k n e es many =
      let w = enough (plain.piece n.store a.spot) a.offset k e in
      let here = get_here n.store.map a.spot (Own (cells_at plain n.store a.spot)) in
      let is : cells_at plain n.store a.spot ≡ w.0 = ap Rattle.sp_code.specs.Memory.cells_in w.1 in
      record {
        own = subst IsOwnPiece (sym here) tt;
        in_range = (
          subst Rattle.sp_cell.specs.Map.IsPiece (sym here) tt,
          subst (λ o. a.offset + length es ≤ length (cells_of o)) (sym here)
              (subst (λ cs. a.offset + length es ≤ length cs) (sym is)
              (subst (λ j. a.offset + j ≤ length w.0) (sym many) w.2)),
        );
      }

  keeping : HasKeeping (memory plain g) Any Every FitsCells
  keeping = record {
    read = λ a n i. any_cell ((memory plain g).read a n);
    cells = λ a k n i. any_cells ((memory plain g).cells a k n);
    put = λ a c n i w x. tt;
    read_item = λ a v k bs n i w x. tt;
    advance = λ k bs n i x. tt;
    copy = λ to from k n i w. tt;
    make_own = λ a k n i w. tt;
    target = λ a k n i w. takes a k n w;
    print = λ t n o i w d. tt;
    tick = λ n o i d. tt;
    open_frame = λ l up es n o i e d. tt;
    close_frame = λ n i w. tt;
  }

  -- a turn that ends at an open
  pub open_takes : (code : Parts) (c : m.Config (Memory Plain)) (p : Proc)
      → IsTurn (memory plain g) code c (Stopped (m.Opens p.target) (config_of p)) → (d : Cell)
      → CanPut p.store p.target (d ∷ [])
  open_takes code c p turn d =
      let ((_, aims), _) = turn_does (memory plain g) code Any Every FitsCells keeping c
      (Stopped (m.Opens p.target) (config_of p)) (any_config c) turn in
      aims (d ∷ []) refl

-- ---- no fault, or which

module _ (lim : Limits) (s : System Plain) (a : Address) (d : m.Config (Memory Plain)) where
  pub open_full : nat_lt lim.entries (s.entries + 1) ≡ true → fault_of lim s (Stopped (m.Opens a) d) ≡ Some fault.F15
  open_full e = rw e refl

  pub open_many : nat_lt lim.entries (s.entries + 1) ≡ false → nat_lt lim.channels (s.births.channels + 1) ≡ true
      → fault_of lim s (Stopped (m.Opens a) d) ≡ Some fault.F14
  open_many e f = rw e (rw f refl)

  pub open_fine : nat_lt lim.entries (s.entries + 1) ≡ false → nat_lt lim.channels (s.births.channels + 1) ≡ false
      → fault_of lim s (Stopped (m.Opens a) d) ≡ None
  open_fine e f = rw e (rw f refl)

-- ---- a channel more

more_at : {X Y : Type 0} (f : Option X → Y) (xs : List X) (y : X) → f (Some y) ≡ f None → (c : ℕ)
    → f (slice_get (xs ++ y ∷ []) c) ≡ f (slice_get xs c)
more_at f [] y e zero = e
more_at f [] y e (suc c) = refl
more_at f (x ∷ xs) y e zero = refl
more_at f (x ∷ xs) y e (suc c) = more_at f xs y e c

abbrev pending_in : Option (Option Pending) → Option Pending
pending_in None = None
pending_in (Some o) = o

is_pending : (o : Option (Option Pending)) (p : Pending) → pending_in o ≡ Some p → o ≡ Some (Some p)
is_pending None p e = absurd (cc e)
is_pending (Some o) p e = ap (λ q. Some q) e

module _ (x : Kernel) (k : IsKernel x) (p w : ℕ) (here : (control_of x).doing p ≡ Out w) (h : Handed)
    (is : h.stop ≡ stop.Open) (no_fault : x.faulted ≡ false)
    (fine : fault_of x.limits (system_of x) (Stopped (m.Opens h.proc.target) (config_of h.proc)) ≡ None) (r : Proc)
    (en : EntersAt h.proc (length x.channels) r) (number : h.proc.number ≡ p)
    (reads : h.proc.input.value ≡ (code_run_of x).input) where
  turn_is : turn_of h ≡ Stopped (m.Opens h.proc.target) (config_of h.proc)
  turn_is = ap (λ s. turn_by s h.proc) is

  event_is : event.Open ≡ event_of x.limits (system_of x) (turn_of h)
  event_is = event_no_fault x.limits (system_of x) (m.Opens h.proc.target) (config_of h.proc) no_fault fine
      ∙ ap (event_of x.limits (system_of x)) (sym turn_is)

  own : r.number ≡ p
  own = en.1 ∙ number

  abbrev opened : Kernel
  opened = record x {
    slots = slice_set x.slots p (slot.Here r st.Ready);
    ready = x.ready ++ p ∷ [];
    journal = record { entries = x.journal.entries ++ record { process = p; event = event.Open } ∷ [] };
    out = x.out - 1;
    channels = x.channels ++ None ∷ [];
    entries = x.entries + 1;
  }

  control : control_of opened ≡ comes_back p (event_of x.limits (system_of x) (turn_of h)) (control_of x)
  control = (λ i. record (control_of x) {
    doing = next_doing x k p w here event.Open (slot.Here r st.Ready) i;
    ready = x.ready ++ p ∷ [];
    out = x.out - 1;
    pending = fun_ext {B = λ c. Option (Way × ℕ)} (more_at offer_in x.channels None refl) i;
    births = next_births x k p w here event.Open (slot.Here r st.Ready) i;
  })
      ∙ ap (λ e. comes_back p e (control_of x)) event_is

  channel_is : config_of r ≡ on_store (put_cell plain h.proc.target (cell.Channel (births x.journal.entries).channels))
      (process_at_entry (config_of h.proc))
  channel_is = en.0 ∙ ap (λ n. on_store (put_cell plain h.proc.target (cell.Channel n))
      (process_at_entry (config_of h.proc))) k.channels

  system : system_of opened ≡ system_after_turn plain (code_run_of x) p (turn_of h) (system_of x)
  system = (λ i. record (system_of x) {
    condition = (next_condition x k p w here event.Open (slot.Here r st.Ready)
        ∙ ap (λ d. at_key ◌==◌ p (Working d) (system_of x).condition) channel_is) i;
    pending = fun_ext {B = λ c. Option ℕ} (more_at process_in x.channels None refl) i;
    births = next_births x k p w here event.Open (slot.Here r st.Ready) i;
    entries = x.entries + 1;
  })
      ∙ after_no_fault (code_run_of x) (system_of x) p (m.Opens h.proc.target) (config_of h.proc) no_fault fine
      ∙ ap (λ t. system_after_turn plain (code_run_of x) p t (system_of x)) (sym turn_is)

  offers : (c : ℕ) (o : Pending) → slice_get (x.channels ++ None ∷ []) c ≡ Some (Some o)
      → WaitsAs (slice_get (slice_set x.slots p (slot.Here r st.Ready)) o.process) c o
  offers c o e = same_offers x k p w here (slot.Here r st.Ready) c o
      (is_pending (slice_get x.channels c) o (sym (more_at pending_in x.channels None refl c) ∙ ap pending_in e))

  gave : IsAfterGive x p h opened
  gave = record {
    control = control;
    system = system;
    code_run = (refl, refl, refl);
    entry = ap (λ e. x.journal.entries ++ record { process = p; event = e } ∷ []) event_is;
    whole = whole_after x k p w here h opened control system
        (length-set x.slots p _ ∙ k.processes
        ∙ ap (λ (b : Births). b.processes) (sym (next_births x k p w here event.Open (slot.Here r st.Ready))))
        (length-append x.channels (None ∷ []) ∙ ap (λ n. n + 1) k.channels
        ∙ ap (λ (b : Births). b.channels) (sym (next_births x k p w here event.Open (slot.Here r st.Ready))))
        offers (same_numbers x k p w here (slot.Here r st.Ready) (own, en.2 ∙ reads))
        (parents_after x k p w here x.parents event.Open
        (record { count = k.parents.count; each = k.parents.each }));
  }

  pub gave_open : IsAfterGive x p h (kernel_after_open r x)
  gave_open = subst (λ n. IsAfterGive x p h (record x {
    slots = slice_set x.slots n (slot.Here r st.Ready);
    ready = x.ready ++ n ∷ [];
    journal = record { entries = x.journal.entries ++ record { process = n; event = event.Open } ∷ [] };
    out = x.out - 1;
    channels = x.channels ++ None ∷ [];
    entries = x.entries + 1;
  })) (sym own) gave
