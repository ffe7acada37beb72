-- What processes wait for stays there with each entry more of a journal.
use Rattle.std.proofs.Common.{◌≡◌, ◌∙◌, ◌+◌, ◌-◌, ◌==◌, ◌<◌, ◌≤◌, ◌&&◌, ℕ, Bool, true, false, cond, List, Option, Some}
use Rattle.std.proofs.Common.{None, length, take, drop, sym, ap, subst, arith}
use Rattle.sp_journal.specs.declared.entry.Way.{Way}
use Rattle.sp_journal.specs.declared.entry.Way.TheVariants as way
use Rattle.sp_journal.specs.declared.entry.Event.{Event}
use Rattle.sp_journal.specs.declared.entry.Event.TheVariants as event
use Rattle.sp_journal.specs.declared.entry.Entry.{Entry}
use Rattle.sp_journal.specs.declared.entry.Birth.{Birth}
use Rattle.sp_journal.specs.Births.{Births, CanFollow, NameableFrom, births_after_entry, births_after_event}
use Rattle.sp_journal.specs.Births.{first_births, births}
use Rattle.sp_journal.specs.Births.{is_next}
use Rattle.sp_journal.specs.Names.{same_way}
use Rattle.sp_journal.proofs.Walk.{any_entry, can_follow, left_is, more_births, this}
use Rattle.sp_report.specs.declared.condition.Condition.{Condition}
use Rattle.sp_report.specs.declared.condition.Condition.TheVariants as condition
use Rattle.sp_report.specs.declared.condition.Pending.{Pending}
use Rattle.sp_report.specs.Conditions.{Conditions, conditions_after, conditions_after_all, with_condition}
use Rattle.sp_report.specs.Conditions.{conditions_after_event, conditions, first_conditions}
use Rattle.sp_report.specs.Conditions.{conditions_after_fork, is_running, is_timely, less_left, conditions_after_offer}
use Rattle.sp_report.specs.Conditions.{conditions_after_end, with_child_fewer}
use Rattle.sp_report.specs.Fits.{ConditionsFit, ConditionFits}

grows : (s : Births) (p : ℕ) (e : Event) → (s.processes ≤ (births_after_event s p e).processes)
    × (s.channels ≤ (births_after_event s p e).channels)
grows s p (event.Fork n) = (omega arith, omega arith)
grows _ _ _ = (omega arith, omega arith)

wider : (s r : Births) (k : Condition) → s.processes ≤ r.processes → s.channels ≤ r.channels → ConditionFits s k
    → ConditionFits r k
wider s r (condition.Offering w c) p q h = omega arith
wider s r (condition.Joining first n left) p q h = omega arith
wider _ _ _ _ _ _ = tt

module _ (s : Births) where
  either : (b : Bool) (j k : Condition) → ConditionFits s j → ConditionFits s k → ConditionFits s (cond b j k)
  either true j k f g = f
  either false j k f g = g

  either_fit : (b : Bool) (t u : Conditions) → ConditionsFit s t → ConditionsFit s u → ConditionsFit s (cond b t u)
  either_fit true t u f g = f
  either_fit false t u f g = g

  becomes_fit : (t : Conditions) (p : ℕ) (k : Condition) → ConditionsFit s t → ConditionFits s k
      → ConditionsFit s (with_condition t p k)
  becomes_fit t p k f g q = either (p == q) k (t.of q) g (f q)

  offered_fit : (t : Conditions) (w : Way) (p c : ℕ) (o : Option Pending) → c < s.channels → ConditionsFit s t
      → ConditionsFit s (conditions_after_offer t w p c o)
  offered_fit t w p c None l f = becomes_fit t p (condition.Offering w c) f l
  offered_fit t w p c (Some o) l f = either_fit (same_way w o.way) t _ f
      (becomes_fit t o.process condition.Running f tt)

  less_fits : (first n left : ℕ) → first + n ≤ s.processes → ConditionFits s (less_left first n left)
  less_fits first n left l = either (left == 1) condition.Running (condition.Joining first n (left - 1)) tt l

  waits_fit : (t : Conditions) (p : ℕ) (k : Condition) → ConditionFits s k → ConditionsFit s t
      → ConditionsFit s (with_child_fewer t p k)
  waits_fit t p (condition.Joining first n left) l f =
      becomes_fit t p (less_left first n left) f (less_fits first n left l)
  waits_fit _ _ _ _ f = f

  reported_fit : (t : Conditions) (b : Option Birth) → ConditionsFit s t → ConditionsFit s (conditions_after_end t b)
  reported_fit t None f = f
  reported_fit t (Some b) f = waits_fit t b.parent (t.of b.parent) (f b.parent) f

-- after a fork its parent waits for processes that are there
forked_fit : (s : Births) (t : Conditions) (p n : ℕ) → ConditionsFit (births_after_event s p (event.Fork n)) t
    → ConditionsFit (births_after_event s p (event.Fork n)) (conditions_after_fork s t p n)
forked_fit s t p n f q =
    let r = births_after_event s p (event.Fork n) in
    let l : s.processes + n ≤ r.processes = omega arith in
    either r (is_next s n q) condition.Running _ tt (becomes_fit r t p (condition.Joining s.processes n n) f l q)

module _ (s : Births) (t : Conditions) where
  all_wider : (p : ℕ) (e : Event) → ConditionsFit s t → ConditionsFit (births_after_event s p e) t
  all_wider p e f q = wider s (births_after_event s p e) (t.of q) (grows s p e).0 (grows s p e).1 (f q)

  changed_fit : (p : ℕ) (e : Event) → CanFollow s (record { process = p; event = e }) → ConditionsFit s t
      → ConditionsFit (births_after_event s p e) (conditions_after_event s t p e)
  changed_fit p (event.Fork n) h f = forked_fit s t p n (all_wider p (event.Fork n) f)
  changed_fit p event.Open h f = all_wider p event.Open f
  changed_fit p (event.Send c) h f = offered_fit s t way.Send p c (t.pending c) h.1 f
  changed_fit p (event.Receive c) h f = offered_fit s t way.Receive p c (t.pending c) h.1 f
  changed_fit p event.End h f = reported_fit s (with_condition t p condition.Ended) (s.birth p)
      (becomes_fit s t p condition.Ended f tt)
  changed_fit p (event.Fault x) h f = becomes_fit s t p condition.Laid f tt
  changed_fit p event.Laid h f = becomes_fit s t p condition.Laid f tt
  changed_fit p event.Pause h f = f

  pub after_fits : (e : Entry) → CanFollow s e → ConditionsFit s t
      → ConditionsFit (births_after_entry s e) (conditions_after s t e)
  after_fits e h f = either_fit (births_after_entry s e) (is_running (t.of e.process) && is_timely t.faulted e.event)
      (conditions_after_event s t e.process e.event) t (changed_fit e.process e.event h f)
      (all_wider e.process e.event f)

pub first_fit : ConditionsFit first_births first_conditions
first_fit q = either first_births (0 == q) condition.Running condition.Unstarted tt tt

-- one more entry of a journal
module _ (es : List Entry) (i : ℕ) (l : i < length es) (t u : Conditions) (told : List Entry) (front : told ≡ take i es)
    (is : u ≡ conditions_after (births told) t (this es i l)) where
  is_after : u ≡ conditions_after (births (take i es)) t (this es i l)
  is_after = is ∙ ap (λ (xs : List Entry). conditions_after (births xs) t (this es i l)) front

  pub one_told : conditions_after_all (births (take i es)) t (drop i es) ≡ conditions es
      → conditions_after_all (births (take (i + 1) es)) u (drop (i + 1) es) ≡ conditions es
  one_told e =
      (λ j. conditions_after_all (more_births es i any_entry l j) (is_after j) (drop (i + 1) es))
      ∙ sym (ap (conditions_after_all (births (take i es)) t) (left_is es i any_entry l)) ∙ e

  pub one_fits : NameableFrom (births (take i es)) (drop i es) → ConditionsFit (births (take i es)) t
      → ConditionsFit (births (take (i + 1) es)) u
  one_fits n f =
      subst (λ (s : Births). ConditionsFit s u) (sym (more_births es i any_entry l))
      (subst (ConditionsFit (births_after_entry (births (take i es)) (this es i l))) (sym is_after)
      (after_fits (births (take i es)) t (this es i l) (can_follow es i any_entry l n) f))
