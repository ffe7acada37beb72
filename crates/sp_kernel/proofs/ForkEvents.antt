-- A fork: the children are ready, and the parent joins them. It leads from `specs/Forks.antt` to `IsAfterGive`.
use Rattle.std.proofs.Common.{◌≡◌, ◌≢◌, ◌⊎◌, ℕ, zero, suc, ◌+◌, ◌-◌, ◌<◌, ◌≤◌, ◌==◌, inl, inr, Bool, true, false, cond}
use Rattle.std.proofs.Common.{nat_lt, ℤ, List, [], ◌∷◌, ◌++◌, length, length-append, get_or, ltb-true, ltb-false}
use Rattle.std.proofs.Common.{Option, Some, None, slice_get, slice_set, refl, sym, ap, ◌∙◌, subst, arith}
use Rattle.std.proofs.Math.Path.{fun_ext}
use Rattle.std.proofs.lemmas.Option.{slice_get-get_or, slice_get_past}
use Rattle.std.proofs.lemmas.Bool.{ne_eqb}
use Rattle.std.proofs.lemmas.List.{length-set}
use Rattle.sp_base.specs.declared.limits.Limits.{Limits}
use Rattle.sp_base.specs.declared.fault.Fault.TheVariants as fault
use Rattle.sp_base.proofs.Facts.{get_beside_set}
use Rattle.sp_cell.specs.Map.{Plain}
use Rattle.sp_journal.specs.declared.entry.Event.TheVariants as event
use Rattle.sp_journal.specs.Births.{Births, births, births_after_event, is_next}
use Rattle.sp_journal.specs.Queue.{numbers}
use Rattle.sp_channel.specs.declared.channels.Pending.{Pending}
use Rattle.sp_code.specs.declared.code.ForkTable.{ForkTable}
use Rattle.sp_code.specs.Machine as m
use Rattle.sp_code.specs.Memory.{Memory, memory}
use Rattle.sp_code.specs.PlainStore.{plain}
use Rattle.sp_code.specs.Tables.{child_at}
use Rattle.sp_code.specs.Turns.{Stopped, IsTurn}
use Rattle.sp_code.specs.Sound.{StopsAt, CanSplit, run_of}
use Rattle.sp_code.specs.Control.{Doing, Out, comes_back}
use Rattle.sp_code.specs.System.{System, Condition, Working, Joins, system_after_turn, event_of, process_at_entry}
use Rattle.sp_code.specs.System.{on_store, fault_of}
use Rattle.sp_code.specs.System.{child_process, plan_from, table_or, child_or}
use Rattle.sp_kernel.specs.declared.slot.Slot.{Slot}
use Rattle.sp_kernel.specs.declared.slot.Slot.TheVariants as slot
use Rattle.sp_kernel.specs.declared.slot.State.TheVariants as st
use Rattle.sp_machine.specs.declared.state.State.{State as Proc}
use Rattle.sp_machine.specs.Procs.{IsAtFork}
use Rattle.sp_machine.specs.Children.{plan_by}
use Rattle.sp_kernel.specs.declared.handed.Handed.{Handed}
use Rattle.sp_machine.specs.declared.state.Stop.TheVariants as stop
use Rattle.sp_kernel.specs.declared.kernel.Kernel.{Kernel}
use Rattle.sp_kernel.specs.Procs.{config_of, turn_by, turn_of}
use Rattle.sp_kernel.specs.Kernels.{doing_in, condition_in, control_of, system_of}
use Rattle.sp_kernel.specs.Kernels.{code_run_of, WaitsAs, IsOwn, NumberIn}
use Rattle.sp_kernel.specs.Kernels.{HasParents, parent_in, parent_of, IsKernel, IsAfterGive}
use Rattle.sp_kernel.specs.ListEnds.{repeat}
use Rattle.sp_kernel.specs.Forks.{HasForked}
use Rattle.sp_kernel.specs.Fits.{FitsHanded}
use Rattle.sp_code.proofs.Queues.{number_or}
use Rattle.sp_code.proofs.Orders.{next_yes, next_not, next_past}
use Rattle.sp_kernel.proofs.Tables.{table_set}
use Rattle.sp_kernel.proofs.KernelEvents.{event_no_fault, after_no_fault, whole_after, there, no_waiter, next_births}
use Rattle.sp_kernel.proofs.KernelEvents.{parents_after}
use Rattle.sp_kernel.proofs.OfferEvents.{waiter_there}

-- ---- lists

pub get_left : {X : Type 0} (xs ys : List X) (q : ℕ) → q < length xs → slice_get (xs ++ ys) q ≡ slice_get xs q
get_left [] ys q l = absurd (omega (arith, l))
get_left (x ∷ xs) ys zero l = refl
get_left (x ∷ xs) ys (suc q) l = get_left xs ys q (omega (arith, l))

pub get_right : {X : Type 0} (xs ys : List X) (j : ℕ) → slice_get (xs ++ ys) (length xs + j) ≡ slice_get ys j
get_right [] ys j = let e : 0 + j ≡ j = omega arith in ap (slice_get ys) e
get_right (x ∷ xs) ys j = let e : length (x ∷ xs) + j ≡ suc (length xs + j) = omega arith in
    ap (slice_get (x ∷ (xs ++ ys))) e ∙ get_right xs ys j

pub length_repeat : {X : Type 0} (n : ℕ) (v : X) → length (repeat n v) ≡ n
length_repeat zero v = refl
length_repeat (suc n) v = ap suc (length_repeat n v)

get_repeat : {X : Type 0} (n : ℕ) (v : X) (j : ℕ) → j < n → slice_get (repeat n v) j ≡ Some v
get_repeat zero v j l = absurd (omega (arith, l))
get_repeat (suc n) v zero l = refl
get_repeat (suc n) v (suc j) l = get_repeat n v j (omega (arith, l))

-- a number before, among and after the next ones
pub data Where (l n q : ℕ) : Type 0 where
  Before : (h : q < l) → Where l n q
  Next : (h : l ≤ q) (i : q < l + n) → Where l n q
  After : (h : l + n ≤ q) → Where l n q

where_is : (l n q : ℕ) → Where l n q
where_is l n q = first (nat_lt q l) refl
  where
    second : l ≤ q → (c : Bool) → nat_lt q (l + n) ≡ c → Where l n q
    second h true e = Next h (ltb-true q (l + n) e)
    second h false e = After (ltb-false q (l + n) e)

    first : (c : Bool) → nat_lt q l ≡ c → Where l n q
    first true e = Before (ltb-true q l e)
    first false e = second (ltb-false q l e) (nat_lt q (l + n)) refl

-- ---- no fault, or which

module _ (lim : Limits) (s : System Plain) (t : ℕ) (v : ℤ) (n : ℕ) (d : m.Config (Memory Plain)) where
  pub fork_full : nat_lt lim.entries (s.entries + 1) ≡ true
      → fault_of lim s (Stopped (m.Forks t v n) d) ≡ Some fault.F15
  fork_full e = rw e refl

  pub fork_many : nat_lt lim.entries (s.entries + 1) ≡ false → nat_lt lim.processes (s.births.processes + n) ≡ true
      → fault_of lim s (Stopped (m.Forks t v n) d) ≡ Some fault.F13
  fork_many e f = rw e (rw f refl)

  pub fork_fine : nat_lt lim.entries (s.entries + 1) ≡ false → nat_lt lim.processes (s.births.processes + n) ≡ false
      → fault_of lim s (Stopped (m.Forks t v n) d) ≡ None
  fork_fine e f = rw e (rw f refl)

push : {X Y : Type 0} (f : X → Y) (b c : Bool) (u v w : X)
    → f (cond b u (cond c v w)) ≡ cond b (f u) (cond c (f v) (f w))
push f true c u v w = refl
push f false true u v w = refl
push f false false u v w = refl

module _ (x : Kernel) (k : IsKernel x) (p w : ℕ) (here : (control_of x).doing p ≡ Out w) (h : Handed) (t : ℕ) (v : ℤ)
    (n : ℕ) (is : h.stop ≡ stop.Fork t v n) (no_fault : x.faulted ≡ false)
    (fine : fault_of x.limits (system_of x) (Stopped (m.Forks t v n) (config_of h.proc)) ≡ None)
    (own : IsOwn (code_run_of x).input h.proc p) (at : IsAtFork h.proc t v n) (y : Kernel)
    (f : HasForked x h.proc n y) where
  turn_is : turn_of h ≡ Stopped (m.Forks t v n) (config_of h.proc)
  turn_is = ap (λ s. turn_by s h.proc) is

  first_is : h.proc.first ≡ v
  first_is = let (_, (first, _)) = at in first

  event_is : event.Fork n ≡ event_of x.limits (system_of x) (turn_of h)
  event_is = event_no_fault x.limits (system_of x) (m.Forks t v n) (config_of h.proc) no_fault fine
      ∙ ap (event_of x.limits (system_of x)) (sym turn_is)

  abbrev l : ℕ
  l = length x.slots

  abbrev b : Births
  b = births x.journal.entries

  abbrev r : Proc
  r = f.parent

  abbrev s : Slot
  s = slot.Here f.parent (st.Joining n)

  p_there : p < l
  p_there = there x k p w here

  number : r.number ≡ p
  number = f.hands.1 ∙ own.0

  all_length : length f.slots ≡ l + n
  all_length = f.seated.length_is ∙ length-append x.slots (repeat n slot.Ended)
      ∙ ap (λ i. l + i) (length_repeat n slot.Ended)

  p_among : p < length f.slots
  p_among = omega (arith, all_length, p_there)

  abbrev child : ℕ → Slot
  child q = slot.Here (get_or f.children (q - l) h.proc) st.Ready

  -- what stands where after it
  slots_are : (q : ℕ) → slice_get (slice_set f.slots p s) q
      ≡ cond (is_next b n q) (Some (child q)) (cond (p == q) (Some s) (slice_get x.slots q))
  slots_are q = ap (λ (g : ℕ → Option Slot). g q) (table_set (λ o. o) f.slots p s p_among) ∙ go (where_is l n q)
    where
      processes : l ≡ b.processes
      processes = k.processes

      go : Where l n q → cond (p == q) (Some s) (slice_get f.slots q)
          ≡ cond (is_next b n q) (Some (child q)) (cond (p == q) (Some s) (slice_get x.slots q))
      go (Before i) =
          let not : is_next b n q ≡ false = next_not b n q (omega (arith, i, processes)) in
          ap (λ o. cond (p == q) (Some s) o) (f.seated.before q i ∙ get_left x.slots (repeat n slot.Ended) q i)
          ∙ ap (λ c. cond c (Some (child q)) (cond (p == q) (Some s) (slice_get x.slots q))) (sym not)
      go (Next i j) =
          let yes : is_next b n q ≡ true = next_yes b n q (omega (arith, i, processes)) (omega (arith, j, processes)) in
          let few : q - l < length f.children = omega (arith, i, j, f.born.0) in
          let place : l + (q - l) ≡ q = omega (arith, i) in
          let apart : p == q ≡ false = ne_eqb p q (λ e. omega (arith, e, p_there, i)) in
          ap (λ c. cond c (Some s) (slice_get f.slots q)) apart
          ∙ ap (slice_get f.slots) (sym place)
          ∙ f.seated.seats (q - l) (get_or f.children (q - l) h.proc)
          (slice_get-get_or f.children (q - l) h.proc few)
          ∙ ap (λ c. cond c (Some (child q)) (cond (p == q) (Some s) (slice_get x.slots q))) (sym yes)
      go (After i) =
          let not : is_next b n q ≡ false = next_past b n q (omega (arith, i, processes)) in
          let none : slice_get f.slots q ≡ None = slice_get_past f.slots q (omega (arith, i, all_length)) in
          let gone : slice_get x.slots q ≡ None = slice_get_past x.slots q (omega (arith, i)) in
          ap (λ o. cond (p == q) (Some s) o) (none ∙ sym gone)
          ∙ ap (λ c. cond c (Some (child q)) (cond (p == q) (Some s) (slice_get x.slots q))) (sym not)

  table_are : {Y : Type 0} (g : Option Slot → Y) (q : ℕ)
      → g (slice_get (slice_set f.slots p s) q)
      ≡ cond (is_next b n q) (g (Some (child q))) (cond (p == q) (g (Some s)) (g (slice_get x.slots q)))
  table_are g q = ap g (slots_are q) ∙ push g (is_next b n q) (p == q) (Some (child q)) (Some s) (slice_get x.slots q)

  abbrev forked : Kernel
  forked = record x {
    slots = slice_set f.slots p (slot.Here f.parent (st.Joining n));
    parents = x.parents ++ repeat n (Some p);
    ready = x.ready ++ numbers l n;
    journal = record { entries = x.journal.entries ++ record { process = p; event = event.Fork n } ∷ [] };
    out = x.out - 1;
    entries = x.entries + 1;
  }

  next_is : births (x.journal.entries ++ record { process = p; event = event.Fork n } ∷ [])
      ≡ births_after_event b p (event.Fork n)
  next_is = next_births x k p w here (event.Fork n) s

  control : control_of forked ≡ comes_back p (event_of x.limits (system_of x) (turn_of h)) (control_of x)
  control = (λ i. record (control_of x) {
    doing = fun_ext {B = λ q. Doing} (table_are doing_in) i;
    ready = x.ready ++ numbers (k.processes i) n;
    out = x.out - 1;
    births = next_is i;
  })
      ∙ ap (λ e. comes_back p e (control_of x)) event_is

  abbrev c : m.Config (Memory Plain)
  c = process_at_entry (config_of h.proc)

  abbrev table : ForkTable
  table = table_or (slice_get x.code.value.forks t)

  abbrev born : ℕ → ℕ → m.Config (Memory Plain)
  born i j = child_process plain (code_run_of x) c v i j (child_or (child_at table j))

  born_at : (j : ℕ) → j < n → config_of (get_or f.children j h.proc) ≡ born (l + j) j
  born_at j few =
      (f.born.1 j h.proc few).0 x.limits
      ∙ ap (λ (input : List ℕ). child_process plain (run_of x.code.value input x.limits) c h.proc.first (l + j) j
      (child_or (child_at (table_or (slice_get x.code.value.forks h.proc.table)) j))) own.1
      ∙ ap (λ (first : ℤ). child_process plain (code_run_of x) c first (l + j) j
      (child_or (child_at (table_or (slice_get x.code.value.forks h.proc.table)) j))) first_is
      ∙ ap (λ (i : ℕ). child_process plain (code_run_of x) c v (l + j) j
      (child_or (child_at (table_or (slice_get x.code.value.forks i)) j))) at.0

  child_runs : (q : ℕ) → l ≤ q → q < l + n → condition_in (Some (child q)) ≡ Working (born q (q - b.processes))
  child_runs q i j =
      let place : l + (q - l) ≡ q = omega (arith, i) in
      ap (λ d. Working d) (born_at (q - l) (omega (arith, i, j)) ∙ ap (λ z. born z (q - l)) place
      ∙ ap (λ z. born q (q - z)) k.processes)

  parent_is : config_of f.parent ≡ on_store (λ m. plain.handed m
      (Rattle.sp_code.specs.System.plan_of plain (code_run_of x) c t v n)) c
  parent_is = f.hands.0
      ∙ ap (λ (z : ℕ). on_store (λ m. plain.handed m
      (plan_from x.code.value.layouts h.proc.frames (table_or (slice_get x.code.value.forks z)) h.proc.first 0 n))
      c) at.0
      ∙ ap (λ (z : ℤ). on_store (λ m. plain.handed m
      (plan_from x.code.value.layouts h.proc.frames (table_or (slice_get x.code.value.forks t)) z 0 n)) c) first_is

  conditions : (q : ℕ) → condition_in (slice_get (slice_set f.slots p s) q)
      ≡ cond (is_next b n q) (Working (born q (q - b.processes)))
      (cond (p == q) (Joins n (on_store (λ m. plain.handed m
      (Rattle.sp_code.specs.System.plan_of plain (code_run_of x) c t v n)) c)) ((system_of x).condition q))
  conditions q = table_are condition_in q ∙ ap
      (λ d. cond (is_next b n q) (condition_in (Some (child q)))
      (cond (p == q) (Joins n d) ((system_of x).condition q))) parent_is ∙ go (is_next b n q) refl
    where
      go : (a : Bool) → is_next b n q ≡ a → cond a (condition_in (Some (child q)))
          (cond (p == q) (Joins n (on_store (λ m. plain.handed m
          (Rattle.sp_code.specs.System.plan_of plain (code_run_of x) c t v n)) c)) ((system_of x).condition q))
          ≡ cond a (Working (born q (q - b.processes)))
          (cond (p == q) (Joins n (on_store
          (λ m. plain.handed m (Rattle.sp_code.specs.System.plan_of plain (code_run_of x) c t v n)) c))
          ((system_of x).condition q))
      go true e = let w = Rattle.sp_code.proofs.Orders.next_is b n q e in
          let processes : l ≡ b.processes = k.processes in
          child_runs q (omega (arith, w.0, processes)) (omega (arith, w.1, processes))
      go false e = refl

  system : system_of forked ≡ system_after_turn plain (code_run_of x) p (turn_of h) (system_of x)
  system = (λ i. record (system_of x) {
    condition = fun_ext {B = λ q. Condition Plain} conditions i;
    births = next_is i;
    entries = x.entries + 1;
  })
      ∙ after_no_fault (code_run_of x) (system_of x) p (m.Forks t v n) (config_of h.proc) no_fault fine
      ∙ ap (λ t. system_after_turn plain (code_run_of x) p t (system_of x)) (sym turn_is)

  offers : (d : ℕ) (o : Pending) → slice_get x.channels d ≡ Some (Some o)
      → WaitsAs (slice_get (slice_set f.slots p s) o.process) d o
  offers d o e =
      let among = waiter_there x k d o e in
      subst (λ a. WaitsAs a d o) (sym (get_beside_set f.slots p o.process s (λ q. no_waiter x k p w here d o e (sym q))
      ∙ f.seated.before o.process among ∙ get_left x.slots (repeat n slot.Ended) o.process among)) (k.offers d o e)

  abbrev input : List ℕ
  input = (code_run_of x).input

  numbered : (q : ℕ) → NumberIn input (slice_get (slice_set f.slots p s) q) q
  numbered q = subst (λ o. NumberIn input o q) (sym (slots_are q)) (go (is_next b n q) refl (number_or p q))
    where
      go : (a : Bool) → is_next b n q ≡ a → (p ≡ q) ⊎ ((p ≢ q) × (p == q ≡ false))
          → NumberIn input (cond a (Some (child q)) (cond (p == q) (Some s) (slice_get x.slots q))) q
      go true e o =
          let w = Rattle.sp_code.proofs.Orders.next_is b n q e in
          let processes : l ≡ b.processes = k.processes in
          let its = (f.born.1 (q - l) h.proc (omega (arith, w.0, w.1, processes))).1 in
          let place : l + (q - l) ≡ q = omega (arith, w.0, processes) in
          (its.0 ∙ place, its.1 ∙ own.1)
      go false e (inl z) = subst (λ j. NumberIn input (cond (p == j) (Some s) (slice_get x.slots j)) j) z
          (rw (Rattle.sp_base.proofs.Facts.equals_itself p) (f.hands.1 ∙ own.0, f.hands.2 ∙ own.1))
      go false e (inr o) = rw (o.1) (k.numbers q)

  parented : HasParents (x.parents ++ repeat n (Some p)) (births_after_event b p (event.Fork n))
  parented = record {
    count = length-append x.parents (repeat n (Some p))
        ∙ ap (λ i. length x.parents + i) (length_repeat n (Some p)) ∙ ap (λ i. i + n) k.parents.count;
    each = each;
  }
    where
      each : (q : ℕ) → parent_in (slice_get (x.parents ++ repeat n (Some p)) q)
          ≡ parent_of (cond (is_next b n q) (Some (record { parent = p; fork = b.forks p; child = q - b.processes }))
          (b.birth q))
      each q = go (where_is (length x.parents) n q)
        where
          count : length x.parents ≡ b.processes
          count = k.parents.count

          go : Where (length x.parents) n q → parent_in (slice_get (x.parents ++ repeat n (Some p)) q)
              ≡ parent_of (cond (is_next b n q)
              (Some (record { parent = p; fork = b.forks p; child = q - b.processes })) (b.birth q))
          go (Before i) =
              let not : is_next b n q ≡ false = next_not b n q (omega (arith, i, count)) in
              ap parent_in (get_left x.parents (repeat n (Some p)) q i) ∙ k.parents.each q
              ∙ ap (λ a. parent_of (cond a (Some (record { parent = p; fork = b.forks p; child = q - b.processes }))
              (b.birth q))) (sym not)
          go (Next i j) =
              let yes : is_next b n q ≡ true = next_yes b n q (omega (arith, i, count)) (omega (arith, j, count)) in
              let place : length x.parents + (q - length x.parents) ≡ q = omega (arith, i) in
              ap (λ z. parent_in (slice_get (x.parents ++ repeat n (Some p)) z)) (sym place)
              ∙ ap parent_in (get_right x.parents (repeat n (Some p)) (q - length x.parents)
              ∙ get_repeat n (Some p) (q - length x.parents) (omega (arith, i, j)))
              ∙ ap (λ a. parent_of (cond a (Some (record { parent = p; fork = b.forks p; child = q - b.processes }))
              (b.birth q))) (sym yes)
          go (After i) =
              let not : is_next b n q ≡ false = next_past b n q (omega (arith, i, count)) in
              let all : length (x.parents ++ repeat n (Some p)) ≡ length x.parents + n =
              length-append x.parents (repeat n (Some p))
              ∙ ap (λ z. length x.parents + z) (length_repeat n (Some p)) in
              ap parent_in (slice_get_past (x.parents ++ repeat n (Some p)) q (omega (arith, i, all)))
              ∙ sym (ap parent_in (slice_get_past x.parents q (omega (arith, i)))) ∙ k.parents.each q
              ∙ ap (λ a. parent_of (cond a (Some (record { parent = p; fork = b.forks p; child = q - b.processes }))
              (b.birth q))) (sym not)

  gave : IsAfterGive x p h forked
  gave = record {
    control = control;
    system = system;
    code_run = (refl, refl, refl);
    entry = ap (λ e. x.journal.entries ++ record { process = p; event = e } ∷ []) event_is;
    whole = whole_after x k p w here h forked control system
        (length-set f.slots p s ∙ all_length ∙ ap (λ i. i + n) k.processes
        ∙ ap (λ (z : Births). z.processes) (sym next_is))
        (k.channels ∙ ap (λ (z : Births). z.channels) (sym next_is))
        offers numbered (parents_after x k p w here (x.parents ++ repeat n (Some p)) (event.Fork n) parented);
  }

  pub gave_fork : IsAfterGive x p h y
  gave_fork = subst (IsAfterGive x p h) (sym f.kernel_is) (subst (λ i. IsAfterGive x p h (record x {
    slots = slice_set f.slots i (slot.Here f.parent (st.Joining n));
    parents = x.parents ++ repeat n (Some i);
    ready = x.ready ++ numbers (length x.slots) n;
    journal = record { entries = x.journal.entries ++ record { process = i; event = event.Fork n } ∷ [] };
    out = x.out - 1;
    entries = x.entries + 1;
  })) (sym number) gave)

-- the fork can be carried out
pub can_fork : (x : Kernel) (w : ℕ) (h : Handed) (t : ℕ) (v : ℤ) (n : ℕ) → h.stop ≡ stop.Fork t v n → x.faulted ≡ false
    → fault_of x.limits (system_of x) (Stopped (m.Forks t v n) (config_of h.proc)) ≡ None → IsAtFork h.proc t v n
    → FitsHanded x w h
    → CanSplit h.proc.store (plan_by x.code.value h.proc n)
can_fork x w h t v n is no_fault fine (table_is, (first_is, _)) fits =
    subst (λ (z : ℕ). CanSplit h.proc.store (plan_from x.code.value.layouts h.proc.frames
    (table_or (slice_get x.code.value.forks z)) h.proc.first 0 n)) (sym table_is)
    (subst (λ (z : ℤ). CanSplit h.proc.store
    (plan_from x.code.value.layouts h.proc.frames (table_or (slice_get x.code.value.forks t)) z 0 n)) (sym first_is)
    (fits.safe.forks h.proc.number t n v (config_of h.proc) stops))
  where
    stops : StopsAt (code_run_of x) (system_of x) h.proc.number (m.Forks t v n) (config_of h.proc)
    stops = record {
      configuration = fits.configuration;
      runs = fits.runs;
      turn = subst (λ z. IsTurn (memory plain (code_run_of x)) (code_run_of x).code fits.configuration z)
          (ap (λ s. turn_by s h.proc) is) fits.turn;
      no_fault = no_fault;
      fine = fine;
    }
