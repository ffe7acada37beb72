-- What is taken is the front of the queue: from the tables after a call of `take` to `FitsCells`.
use Rattle.std.proofs.Common.{◌≡◌, ◌≢◌, ◌⊎◌, ℕ, ◌+◌, ◌<◌, ◌==◌, ◌||◌, inl, inr, Bool, true, false, if◌then◌else◌}
use Rattle.std.proofs.Common.{nat_lt, List, [], ◌∷◌, length, Some, None, slice_get, slice_set, refl, sym, ap, ◌∙◌}
use Rattle.std.proofs.Common.{subst}
use Rattle.std.proofs.lemmas.List.{length-set}
use Rattle.std.proofs.lemmas.Option.{slice_get_within}
use Rattle.sp_base.proofs.Facts.{get_beside_set, get_where_set}
use Rattle.sp_journal.specs.Maps.{at_key}
use Rattle.sp_channel.specs.declared.channels.Pending.{Pending}
use Rattle.sp_code.specs.Control.{Control, Ready, Out, takes, queue_tail, front, front_of, front_while, Standing}
use Rattle.sp_code.specs.Control.{Running}
use Rattle.sp_code.specs.Control.{IsDone, IsDeadlock, IsFault, IsMemory, has_ended, is_ready}
use Rattle.sp_code.specs.System.{Working}
use Rattle.sp_kernel.specs.declared.slot.Slot.{Slot}
use Rattle.sp_kernel.specs.declared.slot.Slot.TheVariants as slot
use Rattle.sp_kernel.specs.declared.slot.State.TheVariants as st
use Rattle.sp_machine.specs.declared.state.State.{State as Proc}
use Rattle.sp_kernel.specs.declared.kernel.Kernel.{Kernel}
use Rattle.sp_kernel.specs.Procs.{config_of}
use Rattle.sp_kernel.specs.Kernels.{doing_in, condition_in, control_of, system_of}
use Rattle.sp_kernel.specs.Kernels.{code_run_of, WaitsAs, NumberIn, IsOwn}
use Rattle.sp_kernel.specs.Kernels.{IsKernel, Takes, is_over}
use Rattle.sp_code.specs.Agreement.{EachNumber, IsGot}
use Rattle.sp_code.proofs.Queues.{number_or}
use Rattle.sp_code.proofs.ControlAgreement.{agrees_takes, orderly_takes}
use Rattle.sp_kernel.proofs.Tables.{table_set, set_as_it_was}

front_none : (k : Control) (st : Standing) (r : List ℕ) → front_of r ≡ None → front_while st r ≡ None
front_none k Running r e = e
front_none _ _ _ _ = refl

pub over_none : (k : Control) → is_over k ≡ true → front k ≡ None
over_none k e = go (nat_lt 0 k.abandons) k.faulted (has_ended (k.doing 0)) e
  where
    go : (a f d : Bool) → (a || (f || d)) ≡ true
        → front_while (if a then IsMemory else
        (if f then IsFault else (if d then IsDone else
        (if is_ready k.ready || nat_lt 0 k.out then Running else IsDeadlock)))) k.ready ≡ None
    go true f d e = refl
    go false true d e = refl
    go false false true e = refl
    go false false false e = absurd (cc e)

pub not_over : (k : Control) → is_over k ≡ false → front k ≡ front_of k.ready
not_over k e = go (nat_lt 0 k.abandons) k.faulted (has_ended (k.doing 0)) e k.ready
  where
    go : (a f d : Bool) → (a || (f || d)) ≡ false → (r : List ℕ)
        → front_while (if a then IsMemory else
        (if f then IsFault else (if d then IsDone else (if is_ready r || nat_lt 0 k.out then Running else IsDeadlock))))
        r ≡ front_of r
    go true f d e r = absurd (cc e)
    go false true d e r = absurd (cc e)
    go false false true e r = absurd (cc e)
    go false false false e [] = front_none k (if nat_lt 0 k.out then Running else IsDeadlock) [] refl
    go false false false e (x ∷ xs) = refl

pub first_ready : (x : Kernel) (k : IsKernel x) (q : ℕ) → front_of x.ready ≡ Some q → IsGot (control_of x) (Some q)
first_ready x k q e = go x.ready refl k.orderly.queue.queued e
  where
    go : (r : List ℕ) → x.ready ≡ r → EachNumber (λ p. (control_of x).doing p ≡ Ready) r → front_of r ≡ Some q
        → IsGot (control_of x) (Some q)
    go [] w each e = absurd (cc e)
    go (y ∷ ys) w each e = let is : y ≡ q = cc e in
        ((ys, w ∙ ap (λ z. z ∷ ys) is), subst (λ z. (control_of x).doing z ≡ Ready) is each.0)

module _ (x : Kernel) (k : IsKernel x) (w q : ℕ) (goes : is_over (control_of x) ≡ false) (e : front_of x.ready ≡ Some q)
    (p : Proc) (here : slice_get x.slots q ≡ Some (slot.Here p st.Ready)) (s : Slot)
    (doing : doing_in (Some s) ≡ Out w) (runs : condition_in (Some s) ≡ Working (config_of p))
    (free : NumberIn (code_run_of x).input (Some s) q) where
  abbrev taken : Kernel
  taken = record x { slots = slice_set x.slots q s; ready = queue_tail x.ready; out = x.out + 1 }

  own : IsOwn (code_run_of x).input p q
  own = subst (λ o. NumberIn (code_run_of x).input o q) here (k.numbers q)

  number : p.number ≡ q
  number = own.0

  is_got : IsGot (control_of x) (Some q)
  is_got = first_ready x k q e

  q_there : q < length x.slots
  q_there = slice_get_within x.slots q (slot.Here p st.Ready) here

  control : control_of taken ≡ takes w (Some q) (control_of x)
  control = λ i. record (control_of x) {
    doing =
        (table_set doing_in x.slots q s q_there ∙ ap (λ d. at_key ◌==◌ q d (control_of x).doing) doing) i;
    ready = queue_tail x.ready;
    out = x.out + 1;
  }

  system : system_of taken ≡ system_of x
  system = λ i. record (system_of x) {
    condition =
        (table_set condition_in x.slots q s q_there
        ∙ set_as_it_was (system_of x).condition q (condition_in (Some s)) (runs ∙ sym (ap condition_in here))) i;
  }

  offers : (c : ℕ) (o : Pending) → slice_get x.channels c ≡ Some (Some o)
      → WaitsAs (slice_get (slice_set x.slots q s) o.process) c o
  offers c o f = subst (λ t. WaitsAs t c o) (sym
      (get_beside_set x.slots q o.process s (λ is. subst (λ t. WaitsAs t c o)
      (ap (λ i. slice_get x.slots i) (sym is) ∙ here) (k.offers c o f)))) (k.offers c o f)

  numbers : (r : ℕ) → NumberIn (code_run_of x).input (slice_get (slice_set x.slots q s) r) r
  numbers r = go (number_or q r)
    where
      go : (q ≡ r) ⊎ ((q ≢ r) × (q == r ≡ false))
          → NumberIn (code_run_of x).input (slice_get (slice_set x.slots q s) r) r
      go (inl is) = subst (λ j. NumberIn (code_run_of x).input (slice_get (slice_set x.slots q s) j) j) is
          (subst (λ t. NumberIn (code_run_of x).input t q) (sym (get_where_set x.slots q s q_there)) free)
      go (inr o) = subst (λ t. NumberIn (code_run_of x).input t r) (sym (get_beside_set x.slots q r s o.0))
          (k.numbers r)

  pub took_some : Takes x w taken (Some p)
  took_some = record {
    control = control ∙ ap (λ n. takes w (Some n) (control_of x)) (sym number);
    front = ap (λ n. Some n) number ∙ sym (not_over (control_of x) goes ∙ e);
    system = system;
    unchanged = λ r. absurd (cc r);
    work = λ r f. let g : p ≡ r = cc f in subst
        (λ (z : Proc). ((system_of x).condition z.number ≡ Working (config_of z))
        × (z.input.value ≡ (code_run_of x).input)) g (ap (system_of x).condition number ∙ ap condition_in here, own.1);
    code_run = (refl, refl, refl);
    journal = refl;
    whole = record {
      orderly = subst (λ c. Rattle.sp_code.specs.Agreement.IsOrderly c) (sym control)
          (orderly_takes (control_of x) k.orderly w (Some q) is_got);
      agrees = subst (λ c. Rattle.sp_code.specs.Agreement.AgreesWithSystem c (system_of taken)) (sym control)
          (subst (λ t. Rattle.sp_code.specs.Agreement.AgreesWithSystem (takes w (Some q) (control_of x)) t)
          (sym system)
          (agrees_takes (control_of x) (system_of x) k.agrees w (Some q) is_got));
      processes = length-set x.slots q s ∙ k.processes;
      channels = k.channels;
      offers = offers;
      numbers = numbers;
      parents = k.parents;
    };
  }
