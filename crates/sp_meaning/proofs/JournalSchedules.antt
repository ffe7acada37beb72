-- Along a journal without a fault goes a lawful schedule of that length.
use Rattle.std.proofs.Common.{◌≡◌, ℕ, suc, ◌+◌, Bool, List, [], ◌∷◌, length, Option, Some, None}
use Rattle.std.proofs.Common.{refl, sym, ap, ◌∙◌, subst, arith}
use Rattle.std.proofs.lemmas.Option.{same_Some}
use Rattle.sp_base.specs.declared.fault.Fault.{Fault}
use Rattle.sp_meaning.specs.Model.{Name}
use Rattle.sp_meaning.specs.Steps.{ActOf, ActOutcome, Advances, Faulty, act_outcome, limit_fault, cost, fault_or}
use Rattle.sp_meaning.specs.Steps.{step_outcome, result_of}
use Rattle.sp_meaning.specs.Steps.{step_with}
use Rattle.sp_meaning.specs.LocalWork.{RunInput, Process}
use Rattle.sp_meaning.specs.SuperPascal.{superpascal}
use Rattle.sp_meaning.specs.Entries.{Happening, Opened, Forked, Offered, Ended, Faulted, Laid, Paused, Occurrence}
use Rattle.sp_meaning.specs.Runs.{StateOf, total_limits, running_process, next_state, Lawful, happening_of}
use Rattle.sp_meaning.specs.Runs.{happening_at}
use Rattle.sp_meaning.specs.Along.{Turn, JournalState, KernelStep, EntryStep, Along, IsCleanly}
use Rattle.sp_meaning.specs.Along.{IsClean}
use Rattle.sp_meaning.proofs.Frames.{all_in, fault_frame}
use Rattle.sp_meaning.proofs.TurnWalks.{turn_folds}

abbrev IsCleanStep : Option Happening → Type 0
IsCleanStep None = Unit {0}
IsCleanStep (Some w) = IsCleanly w

module _ (g : RunInput) where
  fine : (s : StateOf g) (q : Name) (a : ActOf (superpascal g)) (x : Option Fault) (out : ActOutcome (superpascal g))
      → act_outcome s q a ≡ out → IsCleanStep (happening_of a (fault_or x out)) → s.fault ≡ None
      → (result_of s q (fault_or x out)).fault ≡ None
  fine s q a None (Advances cs) e f h = fault_frame s q a cs s (all_in s q a cs e) ∙ h
  fine s q a None (Faulty i) e f h = absurd f
  fine s q a (Some i) out e f h = absurd f

  -- a step without a fault entry sets no fault
  pub no_fault_step : (s : StateOf g) (q : Name) (own : Process) (m : StateOf g) (w : Option Happening)
      → running_process g s q ≡ Some own → happening_at g s q own ≡ w → IsCleanStep w → next_state g s q ≡ Some m
      → s.fault ≡ None → m.fault ≡ None
  no_fault_step s q own m w run e f st h =
      let a = (superpascal g).next own s.store in
      let ok : (result_of s q (step_outcome (total_limits g) s q a)).fault ≡ None =
      fine s q a (limit_fault (total_limits g) s.totals (cost a)) (act_outcome s q a) refl
      (subst IsCleanStep (sym e) f) h in
      let same : result_of s q (step_outcome (total_limits g) s q a) ≡ m =
      same_Some (result_of s q (step_outcome (total_limits g) s q a)) m (sym (ap (step_with (total_limits g) s q) run)
      ∙ st) in
      subst (λ (z : StateOf g). z.fault ≡ None) same ok

  -- a lawful schedule of n names from s to t, without a fault at its end
  pub record FaultFreeSchedule (s : StateOf g) (n : ℕ) (t : StateOf g) : Type 0 where
    pub names : List Name
    pub size : length names ≡ n
    pub leads : Lawful g s names t
    pub still : t.fault ≡ None

  -- one step in front
  first : (s : StateOf g) (q : Name) (m : StateOf g) (n : ℕ) (t : StateOf g) → s.fault ≡ None
      → next_state g s q ≡ Some m
      → FaultFreeSchedule m n t → FaultFreeSchedule s (suc n) t
  first s q m n t no_fault st go = record {
    names = q ∷ go.names;
    size = ap suc go.size;
    leads = (m, no_fault, st, go.leads);
    still = go.still;
  }

  -- k local steps in front
  turned : (turn since : ℕ) (q : Name) (k : ℕ) (s m : StateOf g) (paused : Bool) (n : ℕ) (t : StateOf g)
      → Turn g turn since q k s m paused → s.fault ≡ None → (m.fault ≡ None → FaultFreeSchedule m n t)
      → FaultFreeSchedule s (k + n) t
  turned turn since q k s m paused n t turns f go =
      turn_folds g (λ i z. z.fault ≡ None → FaultFreeSchedule z (i + n) t) turn since q m
      (λ still. subst (λ z. FaultFreeSchedule m z t) zero_add (go still))
      (λ i z own next runs enters_none steps later no_fault. subst (λ y. FaultFreeSchedule z y t) (suc_add i)
      (first z q next (i + n) t no_fault steps
      (later (no_fault_step z q own next None runs enters_none tt steps no_fault)))) k s paused turns f
    where
      zero_add : n ≡ 0 + n
      zero_add = omega arith

      suc_add : (i : ℕ) → suc (i + n) ≡ suc i + n
      suc_add i = omega arith

  kernel_goes : (left : JournalState → StateOf g → ℕ
      → Type 0) (c : JournalState) (m : StateOf g) (paused : Bool) (q : Name)
      (w : Happening) (n : ℕ) (t : StateOf g) → IsCleanly w → KernelStep g left c m paused q w n
      → ((c1 : JournalState) (u : StateOf g) (r : ℕ) → left c1 u r → u.fault ≡ None → FaultFreeSchedule u r t)
      → m.fault ≡ None
      → FaultFreeSchedule m n t
  kernel_goes left c m paused q w n t ok (_, k) next_goes f =
      let still = no_fault_step m q k.makes.process k.next (Some w) k.makes.runs k.makes.happens ok k.makes.steps f in
      subst (λ z. FaultFreeSchedule m z t) (sym k.size) (first m q k.next k.rest t f k.makes.steps
      (next_goes _ k.next k.rest k.ahead still))

  entered_goes : (left : JournalState → StateOf g → ℕ
      → Type 0) (c : JournalState) (m : StateOf g) (paused : Bool) (q : Name)
      (w : Happening) (n : ℕ) (t : StateOf g) → IsCleanly w → EntryStep g left c m paused q w n
      → ((c1 : JournalState) (u : StateOf g) (r : ℕ) → left c1 u r → u.fault ≡ None → FaultFreeSchedule u r t)
      → m.fault ≡ None
      → FaultFreeSchedule m n t
  entered_goes left c m paused q Opened n t ok h k f = kernel_goes left c m paused q Opened n t ok h k f
  entered_goes left c m paused q (Forked i) n t ok h k f = kernel_goes left c m paused q (Forked i) n t ok h k f
  entered_goes left c m paused q (Offered w ch) n t ok h k f = kernel_goes left c m paused q (Offered w ch) n t ok h k f
  entered_goes left c m paused q Ended n t ok h k f = kernel_goes left c m paused q Ended n t ok h k f
  entered_goes left c m paused q (Faulted i) n t ok h k f = absurd ok
  entered_goes left c m paused q Laid n t ok h k f = absurd ok
  entered_goes left c m paused q Paused n t ok h k f = k _ m n h.2 f

  pub along_goes : (turn : ℕ) (es : List Occurrence) (c : JournalState) (s : StateOf g) (n : ℕ) (t : StateOf g)
      → Along g turn c s es n t → IsClean es → s.fault ≡ None → FaultFreeSchedule s n t
  along_goes turn [] c s n t a clean f = record {
    names = [];
    size = sym a.0;
    leads = a.1;
    still = ap (λ (z : StateOf g). z.fault) a.1 ∙ f;
  }
  along_goes turn (e ∷ es) c s n t a clean f =
      subst (λ z. FaultFreeSchedule s z t) (sym a.size) (turned turn (c.since e.who) e.who a.steps s a.middle a.paused
      a.rest t a.turns f
      (entered_goes _ c a.middle a.paused e.who e.what a.rest t clean.0 a.enters
      (λ c1 u r b still. along_goes turn es c1 u r t b clean.1 still)))
