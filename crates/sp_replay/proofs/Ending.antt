-- The end and the output of a run that was followed.
use Rattle.std.proofs.Common.{◌≡◌, ◌≢◌, ℕ, zero, suc, ◌<◌, ◌||◌, nat_lt, if◌then◌else◌, Bool, true, false, List, []}
use Rattle.std.proofs.Common.{◌∷◌, length, Option, Some, None, refl, sym, ap, ◌∙◌, subst, arith}
use Rattle.std.proofs.lemmas.Option.{same_Some}
use Rattle.sp_cell.specs.Map.{Plain}
use Rattle.sp_journal.specs.declared.outcome.End.{End}
use Rattle.sp_code.specs.PlainStore.{plain}
use Rattle.sp_code.specs.Control.{Doing, Unborn, Ready, Out, Sending, Receiving, Joining, Laid, Ended, Gone, standing}
use Rattle.sp_code.specs.Control.{Running as Going, IsDone, IsDeadlock, IsFault, IsMemory, is_ready, has_ended}
use Rattle.sp_code.specs.System.{store_in}
use Rattle.sp_code.specs.Agreement.{EachNumber, IsOut, phase, phase_in, Running, HasOuts}
use Rattle.sp_code.specs.OutputHolder.{IsOutputOf}
use Rattle.sp_code.proofs.Holders.{one_holder}
use Rattle.sp_code.proofs.Outs.{nobody_runs}
use Rattle.sp_code.proofs.Phases.{live_phase}
use Rattle.sp_machine.specs.declared.state.State.{State as Proc}
use Rattle.sp_kernel.specs.declared.kernel.Kernel.{Kernel}
use Rattle.sp_kernel.specs.Kernels.{control_of, system_of, code_run_of}
use Rattle.sp_kernel.specs.Closes.{HeldHere, KernelEndsAs as KernelEndsSo}
use Rattle.sp_kernel.specs.Outputs.{output_of_process, or_rest}
use Rattle.sp_kernel.specs.KernelLaws.{from_start}
use Rattle.sp_kernel.proofs.FoundOutputs.{or_rest_none}
use Rattle.sp_runner.proofs.RunResults.{ends_at}
use Rattle.sp_replay.specs.HeldProcesses.{held_at, output_in, outputs}
use Rattle.sp_replay.specs.FollowInvariant.{IsOutOfKernel, HasCome, AreOut}
use Rattle.sp_replay.specs.Replays.{GoesOn, ReplayEndsSo}
use Rattle.sp_replay.proofs.HistorySteps.{is_whole, has_outs}

-- ---- how the control stands

by_going : (a f d r : Bool) → (if a then IsMemory else
    (if f then IsFault else (if d then IsDone else (if r then Going else IsDeadlock)))) ≡ Going → (f ≡ false)
    × (d ≡ false) × (r ≡ true)
by_going true f d r e = absurd (cc e)
by_going false true d r e = absurd (cc e)
by_going false false true r e = absurd (cc e)
by_going false false false true e = (refl, refl, refl)
by_going false false false false e = absurd (cc e)

by_deadlock : (a f d r : Bool) → (if a then IsMemory else
    (if f then IsFault else (if d then IsDone else (if r then Going else IsDeadlock)))) ≡ IsDeadlock → r ≡ false
by_deadlock true f d r e = absurd (cc e)
by_deadlock false true d r e = absurd (cc e)
by_deadlock false false true r e = absurd (cc e)
by_deadlock false false false true e = absurd (cc e)
by_deadlock false false false false e = refl

some_out : (r : List ℕ) (n : ℕ) → r ≡ [] → is_ready r || nat_lt 0 n ≡ true → 0 < n
some_out [] n e is = grind (arith, is)
some_out (p ∷ ps) n e is = absurd (cc e)

none_out : (r : List ℕ) (n : ℕ) → is_ready r || nat_lt 0 n ≡ false → n ≡ 0
none_out [] n is = grind (arith, is)
none_out (p ∷ ps) n is = absurd (cc is)

-- ---- the end

module _ (x : Kernel) (c : HasCome x) (who : ℕ → Option Proc) (o : AreOut x who) (none : x.ready ≡ []) where
  first_out : (qs : List ℕ) → 0 < length qs → EachNumber (λ q. IsOut ((control_of x).doing q)) qs → (q : ℕ)
      × (phase_in ((system_of x).condition q) ≡ Running)
  first_out [] l e = absurd (omega (arith, l))
  first_out (q ∷ qs) l ((_, out), _) = (q, sym ((is_whole x c).agrees.each q) ∙ ap phase out)

  goes_on : standing (control_of x) ≡ Going → GoesOn (system_of x)
  goes_on is =
      let b = by_going (nat_lt 0 x.abandons) x.faulted (has_ended ((control_of x).doing 0))
      (is_ready x.ready || nat_lt 0 x.out) is in
      let outs : HasOuts (control_of x) = has_outs x c in
      record {
        no_fault = b.0;
        root = λ f. live_phase ((control_of x).doing 0) b.1 ((is_whole x c).agrees.each 0 ∙ f);
        runs = first_out outs.outs (subst (λ n. 0 < n) (sym outs.count) (some_out x.ready x.out none b.2)) outs.each;
      }

  not_gone : (q : ℕ) → (control_of x).doing q ≢ Gone
  not_gone q is =
      let w = o.all q (subst IsOutOfKernel (sym is) tt) in
      let e = (o.each q w.0 w.1).out in
      absurd (cc (e, is))

  idle : standing (control_of x) ≡ IsDeadlock → (q : ℕ) → phase_in ((system_of x).condition q) ≢ Running
  idle is = nobody_runs (control_of x) (system_of x) (is_whole x c).orderly (is_whole x c).agrees (has_outs x c) none
      (none_out x.ready x.out (by_deadlock (nat_lt 0 x.abandons) x.faulted (has_ended ((control_of x).doing 0))
      (is_ready x.ready || nat_lt 0 x.out) is)) not_gone

  pub ends_so : (e : Option End) → KernelEndsSo x e → ReplayEndsSo x.journal.entries (system_of x) e
  ends_so None is = goes_on is
  ends_so (Some e) is = ends_at x (is_whole x c) c.kept idle e is

  -- ---- the output

  holder : (q : ℕ) × (bs : List ℕ) × IsOutputOf (system_of x) q bs
  holder = one_holder (code_run_of c.opened) (system_of x) c.log
      (λ es t l. c.opening.sound.safe c.opened.root.value.input.value c.opened.limits c.opening.limits es t l)
      (from_start c.opened c.opening c.log x c.told)

  is_output : (q : ℕ) (m : Plain) (bs : List ℕ) → store_in ((system_of x).condition q) ≡ Some m
      → plain.output m ≡ Some bs → IsOutputOf (system_of x) q bs
  is_output q m bs at out = record {
    store = m;
    store_is = at;
    output = out;
    only = λ r p cs a b. holder.2.only r p cs a b ∙ sym (holder.2.only q m bs at out);
  }

  -- of a process that the kernel has
  pub here : (bs : List ℕ) → HeldHere x bs → (q : ℕ) × IsOutputOf (system_of x) q bs
  here bs (process, store, _, there, written) = (process, is_output process store bs there written)

  store_is : (q : ℕ) (p : Proc) → who q ≡ Some p → store_in ((system_of x).condition q) ≡ Some p.store
  store_is q p e = ap store_in (o.each q p e).runs

  -- of one that is held
  pub by_held : (bs : List ℕ) (q : ℕ) (p : Proc) → who q ≡ Some p → output_of_process p ≡ Some bs → (r : ℕ)
      × IsOutputOf (system_of x) r bs
  by_held bs q p e w = (q, is_output q p.store bs (store_is q p e) w)

  -- one of both has it
  pub nowhere : ((bs : List ℕ) → HeldHere x bs → ⊥)
      → ((q : ℕ) (p : Proc) → who q ≡ Some p → output_of_process p ≡ None) → ⊥
  nowhere not_here not_held = go ((control_of x).doing holder.0) refl
    where
      away : IsOutOfKernel ((control_of x).doing holder.0) → ⊥
      away a =
          let w = o.all holder.0 a in
          let same : w.0.store ≡ holder.2.store = same_Some _ _ (sym (store_is holder.0 w.0 w.1) ∙ holder.2.store_is) in
          let some : output_of_process w.0 ≡ Some holder.1 = ap (λ (m : Plain). plain.output m) same
          ∙ holder.2.output in
          let no = not_held holder.0 w.0 w.1 in
          absurd (cc (some, no))

      at_home : (d : Doing) → (control_of x).doing holder.0 ≡ d → ((w : ℕ) → d ≡ Out w → ⊥) → (d ≡ Gone → ⊥) → ⊥
      at_home d e n g = not_here holder.1 (
        holder.0,
        holder.2.store,
        ((λ w f. n w (sym e ∙ f)), (λ f. g (sym e ∙ f))),
        holder.2.store_is,
        holder.2.output,
      )

      go : (d : Doing) → (control_of x).doing holder.0 ≡ d → ⊥
      go (Out w) e = away (subst IsOutOfKernel (sym e) tt)
      go Gone e = away (subst IsOutOfKernel (sym e) tt)
      go Unborn e = at_home Unborn e (λ w f. absurd (cc f)) (λ f. absurd (cc f))
      go Ready e = at_home Ready e (λ w f. absurd (cc f)) (λ f. absurd (cc f))
      go (Sending k) e = at_home (Sending k) e (λ w f. absurd (cc f)) (λ f. absurd (cc f))
      go (Receiving k) e = at_home (Receiving k) e (λ w f. absurd (cc f)) (λ f. absurd (cc f))
      go (Joining n) e = at_home (Joining n) e (λ w f. absurd (cc f)) (λ f. absurd (cc f))
      go Laid e = at_home Laid e (λ w f. absurd (cc f)) (λ f. absurd (cc f))
      go Ended e = at_home Ended e (λ w f. absurd (cc f)) (λ f. absurd (cc f))

-- ---- the outputs of those that are held

pub no_outputs : (held : List (Option Proc)) → outputs held ≡ None → (q : ℕ) (p : Proc) → held_at held q ≡ Some p
    → output_of_process p ≡ None
no_outputs [] e q p is = absurd (cc is)
no_outputs (o ∷ os) e zero p is = subst (λ (r : Option Proc). output_in r ≡ None) is
    (or_rest_none (output_in o) (outputs os) e).0
no_outputs (o ∷ os) e (suc q) p is = no_outputs os (or_rest_none (output_in o) (outputs os) e).1 q p is

pub some_output : (held : List (Option Proc)) (bs : List ℕ) → outputs held ≡ Some bs → (q : ℕ) × (p : Proc)
    × (held_at held q ≡ Some p) × (output_of_process p ≡ Some bs)
some_output [] bs e = absurd (cc e)
some_output (None ∷ os) bs e = let (process, proc, is_held, written) = some_output os bs e in
    (suc process, proc, is_held, written)
some_output (Some p ∷ os) bs e = go (output_of_process p) refl e (λ f. some_output os bs f)
  where
    go : (w : Option (List ℕ)) → output_of_process p ≡ w → or_rest w (outputs os) ≡ Some bs
        → (outputs os ≡ Some bs → (q : ℕ) × (u : Proc) × (held_at os q ≡ Some u) × (output_of_process u ≡ Some bs))
        → (q : ℕ)
        × (u : Proc) × (held_at (Some p ∷ os) q ≡ Some u) × (output_of_process u ≡ Some bs)
    go (Some cs) is f on = (zero, p, refl, is ∙ f)
    go None is f on = let (process, proc, is_held, written) = on f in (suc process, proc, is_held, written)
