-- Who is out after a process was taken, and after one was handed in.
use Rattle.std.proofs.Common.{◌≡◌, ◌≢◌, ◌⊎◌, ℕ, ◌==◌, inl, inr, if◌then◌else◌, Bool, true, false, [], Option, Some}
use Rattle.std.proofs.Common.{None, refl, sym, ap, ◌∙◌, subst}
use Rattle.std.proofs.lemmas.Option.{none-some, same_Some}
use Rattle.sp_cell.specs.Map.{Plain}
use Rattle.sp_journal.specs.declared.entry.Event.{Event}
use Rattle.sp_journal.specs.declared.entry.Event.TheVariants as event
use Rattle.sp_journal.specs.Maps.{at_key}
use Rattle.sp_code.specs.Memory.{CodeRun}
use Rattle.sp_code.specs.PlainStore.{plain}
use Rattle.sp_code.specs.Control.{Control, Out, queue_tail, comes_back}
use Rattle.sp_code.specs.System.{System, event_of, event_or, fault_of}
use Rattle.sp_machine.specs.declared.state.State.{State as Proc}
use Rattle.sp_machine.specs.Procs.{config_of}
use Rattle.sp_code.proofs.Queues.{number_or, at_same, at_other}
use Rattle.sp_code.proofs.Orders.{out_there}
use Rattle.sp_code.proofs.OutProcesses.{after_same, back_out}
use Rattle.sp_kernel.specs.declared.handed.Handed.{Handed}
use Rattle.sp_kernel.specs.declared.kernel.Kernel.{Kernel}
use Rattle.sp_kernel.specs.Procs.{turn_of}
use Rattle.sp_kernel.specs.Kernels.{control_of, system_of, code_run_of, IsKernel, IsAfterGive, Takes}
use Rattle.sp_kernel.proofs.NoteSteps.{same_code_run}
use Rattle.sp_replay.specs.FollowInvariant.{IsOutOfKernel, IsOutAs, AreOut, with_taken}
use Rattle.sp_kernel.proofs.RunEnds.{back_kept}
use Rattle.sp_replay.proofs.OutOfKernel.{away_by_none, back_still}

-- the same processes by another table
pub out_same : (y : Kernel) (f h : ℕ → Option Proc) → ((q : ℕ) → h q ≡ f q) → AreOut y f → AreOut y h
out_same y f h same o = record {
  each = λ q p e. o.each q p (sym (same q) ∙ e);
  all = λ q a. let w = o.all q a in (w.0, same q ∙ w.1);
  still = o.still;
}

module _ (x y : Kernel) (who : ℕ → Option Proc) (o : AreOut x who) where
  pub taken_some : (p : Proc) → Takes x 0 y (Some p) → AreOut y (at_key ◌==◌ p.number (Some p) who)
  taken_some p t = record {
    each = each;
    all = all;
    still = λ f. ap (λ (k : Control). k.ready) t.control
        ∙ ap queue_tail (o.still (sym (ap (λ (k : Control). k.faulted) t.control) ∙ f));
  }
    where
      doing_is : (q : ℕ) → (control_of y).doing q ≡ at_key ◌==◌ p.number (Out 0) (control_of x).doing q
      doing_is q = ap (λ (k : Control). k.doing q) t.control

      input_is : (code_run_of x).input ≡ (code_run_of y).input
      input_is = ap (λ (g : CodeRun). g.input) (sym (same_code_run x y t.code_run))

      here : at_key ◌==◌ p.number (Some p) who p.number ≡ Some p
      here = at_same who p.number (Some p)

      mine : IsOutAs y p.number p
      mine = record {
        number = refl;
        out = doing_is p.number ∙ at_same (control_of x).doing p.number (Out 0);
        runs = ap (λ (s : System Plain). s.condition p.number) t.system ∙ (t.work p refl).0;
        input = (t.work p refl).1 ∙ input_is;
      }

      each : (q : ℕ) (u : Proc) → at_key ◌==◌ p.number (Some p) who q ≡ Some u → IsOutAs y q u
      each q u e = go (number_or p.number q)
        where
          go : (p.number ≡ q) ⊎ ((p.number ≢ q) × (p.number == q ≡ false)) → IsOutAs y q u
          go (inl is) =
              let same : p ≡ u = same_Some _ _
              (sym (subst (λ z. at_key ◌==◌ p.number (Some p) who z ≡ Some p) is here) ∙ e) in
              subst (λ z. IsOutAs y q z) same (subst (λ z. IsOutAs y z p) is mine)
          go (inr n) =
              let w : IsOutAs x q u = o.each q u (sym (at_other who p.number q (Some p) n.0) ∙ e) in
              record {
                number = w.number;
                out = doing_is q ∙ at_other (control_of x).doing p.number q (Out 0) n.0 ∙ w.out;
                runs = ap (λ (s : System Plain). s.condition q) t.system ∙ w.runs;
                input = w.input ∙ input_is;
              }

      all : (q : ℕ) → IsOutOfKernel ((control_of y).doing q) → (u : Proc)
          × (at_key ◌==◌ p.number (Some p) who q ≡ Some u)
      all q a = go (number_or p.number q)
        where
          go : (p.number ≡ q) ⊎ ((p.number ≢ q) × (p.number == q ≡ false)) → (u : Proc)
              × (at_key ◌==◌ p.number (Some p) who q ≡ Some u)
          go (inl is) = (p, subst (λ z. at_key ◌==◌ p.number (Some p) who z ≡ Some p) is here)
          go (inr n) =
              let w = o.all q (subst IsOutOfKernel (doing_is q ∙ at_other (control_of x).doing p.number q (Out 0)
              n.0) a) in
              (w.0, at_other who p.number q (Some p) n.0 ∙ w.1)

  -- after a process was taken, if any
  pub taken_out : (r : Option Proc) → Takes x 0 y r → AreOut y (with_taken r who)
  taken_out None t = subst (λ (k : Kernel). AreOut k who) (sym (t.unchanged refl)) o
  taken_out (Some p) t = taken_some p t

-- after one was handed in
module _ (x : Kernel) (whole : IsKernel x) (none : x.ready ≡ []) (who : ℕ → Option Proc) (o : AreOut x who) (h : Handed)
    (m : Kernel) (gave : IsAfterGive x h.proc.number h m) (rest : ℕ → Option Proc)
    (others : (q : ℕ) → rest q ≡ at_key ◌==◌ h.proc.number None who q) where
  abbrev e : Event
  e = event_of x.limits (system_of x) (turn_of h)

  doing_now : (q : ℕ) → (control_of m).doing q ≡ (comes_back h.proc.number e (control_of x)).doing q
  doing_now q = ap (λ (k : Control). k.doing q) gave.control

  laid : x.faulted ≡ true → e ≡ event.Laid
  laid f = ap (λ (b : Bool). if b then event.Laid else
      event_or (fault_of x.limits (system_of x) (turn_of h)) (turn_of h)) f

  each_left : (q : ℕ) (u : Proc) → rest q ≡ Some u → IsOutAs m q u
  each_left q u f = go (number_or h.proc.number q)
    where
      go : (h.proc.number ≡ q) ⊎ ((h.proc.number ≢ q) × (h.proc.number == q ≡ false)) → IsOutAs m q u
      go (inl is) = absurd (none-some u (sym
          (subst (λ z. at_key ◌==◌ h.proc.number None who z ≡ None) is (at_same who h.proc.number None))
          ∙ sym (others q) ∙ f))
      go (inr n) =
          let w : IsOutAs x q u = o.each q u (sym (at_other who h.proc.number q None n.0) ∙ sym (others q) ∙ f) in
          record {
            number = w.number;
            out = doing_now q ∙ back_out (control_of x) whole.orderly q 0 h.proc.number w.out n.0 e;
            runs = ap (λ (s : System Plain). s.condition q) gave.system
                ∙ after_same plain (code_run_of x) (system_of x) q h.proc.number (config_of u) w.runs
                (out_there whole.orderly q 0 w.out) n.0 (turn_of h);
            input = w.input ∙ ap (λ (g : CodeRun). g.input) (sym (same_code_run x m gave.code_run));
          }

  all_left : (q : ℕ) → IsOutOfKernel ((control_of m).doing q) → (u : Proc) × (rest q ≡ Some u)
  all_left q a =
      let w = back_kept IsOutOfKernel away_by_none (control_of x) h.proc.number e q
      (subst IsOutOfKernel (doing_now q) a) in
      let v = o.all q (subst IsOutOfKernel (doing_now q ∙ w.0) a) in
      (v.0, others q ∙ at_other who h.proc.number q None (λ is. w.1 (sym is)) ∙ v.1)

  pub given_out : AreOut m rest
  given_out = record {
    each = each_left;
    all = all_left;
    still = λ f. ap (λ (k : Control). k.ready) gave.control
        ∙ back_still (control_of x) h.proc.number e laid none (sym (ap (λ (k : Control). k.faulted) gave.control) ∙ f);
  }
