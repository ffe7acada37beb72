-- An entry that changes one process alone and what it may write keeps the relation (`linked_local`). Here are also the
-- facts of the process that makes an entry: its name, that it runs, its rights, and that it is alone.
use Rattle.std.proofs.Common.{◌≡◌, ◌⊎◌, inl, ⊎_elim, ℕ, ◌<◌, ◌==◌, ◌∷◌, Some, None, Bool, true, false, cond}
use Rattle.std.proofs.Common.{if◌then◌else◌, eqb-true, eq-eqb, refl, sym, ap, ◌∙◌, subst, arith}
use Rattle.std.specs.Prelude.{◌≢◌}
use Rattle.sp_journal.specs.Maps.{at_key}
use Rattle.sp_cell.specs.Map.{Plain}
use Rattle.sp_meaning.specs.Model.{Name, Condition, Absent, Works, Waits, Joins, Ended}
use Rattle.sp_meaning.specs.Steps.{own_part_in, has_ended, all_ended, IsAlive as IsLive}
use Rattle.sp_meaning.specs.LocalWork.{Loc, LocationContent, Address, Process}
use Rattle.sp_meaning.specs.SuperPascal.{weight_of}
use Rattle.sp_meaning.specs.Runs.{StateOf, total_limits, running_process}
use Rattle.sp_meaning.specs.Along.{JournalState, with_ticks}
use Rattle.sp_meaning.proofs.Keys.{name_test, number_or}
use Rattle.sp_meaning.proofs.Maps.{same_or_not, differs}
use Rattle.sp_meaning.proofs.RightsInvariant.{Inv, Keeps_to, ConditionInRights, works_well}
use Rattle.sp_meaning.proofs.Parallel.{IsAlone}
use Rattle.sp_meaning.proofs.StepLaws.{StateKeeps, working_keeps, K}
use Rattle.sp_meaning.proofs.Rights.{OwnOrGiven}
use Rattle.sp_meaning.proofs.Status.{working_lives, lives_ended}
use Rattle.sp_meaning.proofs.Weights.{AreLight}
use Rattle.sp_code.specs.System.{System}
use Rattle.sp_code.specs.System as sys
use Rattle.sp_link.proofs.Journal.{is_born}
use Rattle.sp_link.proofs.Relation.{RunContext, W_of, R_of, Performs_all, Linked, IsPending}
use Rattle.sp_link.proofs.OthersStay.{does_stay}
use Rattle.sp_link.proofs.Relation.{AtStop}

-- an entry notes the ticks of its process alone
pub since_other : (c : JournalState) (v : Name) (n : ℕ) (a : Name) → a ≢ v → (with_ticks v n c).since a ≡ c.since a
since_other c v n a e = ap (λ b. cond b n (c.since a)) (differs name_test v a (λ h. e (sym h)))

-- a working process, whatever condition it has, keeps to its rights
pub holds_by : (G : RunContext) (W R : Name → Loc → Type 0) (m : Name → Condition Process LocationContent Address)
    (f : Name → ℕ)
    (q : Name) (x : Condition Process LocationContent Address) (pr : Process) → own_part_in m q x ≡ Some pr
    → Keeps_to G.g.program W R f q pr → ConditionInRights G.g.program W R f q x
holds_by G W R m f q Absent pr e k = absurd (cc e)
holds_by G W R m f q (Works o) pr e k = let x : pr ≡ o = cc e in subst (λ z. Keeps_to G.g.program W R f q z) x k
holds_by G W R m f q (Waits o) pr e k = absurd (cc e)
holds_by G W R m f q (Joins a b o) pr e k = go (all_ended m q a b) e
  where
    go : (c : Bool) → (if c then Some o else None) ≡ Some pr → Keeps_to G.g.program W R f q o
    go true e = let x : pr ≡ o = cc e in subst (λ z. Keeps_to G.g.program W R f q z) x k
    go false e = absurd (cc e)
holds_by G W R m f q Ended pr e k = absurd (cc e)

-- the invariant of rights, where only one has changed
pub inv_local : (G : RunContext) (W R : Name → Loc → Type 0) (m m1 : Name → Condition Process LocationContent Address)
    (f f1 : Name → ℕ) (q : Name) → Inv G.g.program W R m f → f1 ≡ f → (m q ≢ Absent) → ((r : Name) → r ≢ q → m1 r ≡ m r)
    → ConditionInRights G.g.program W R f q (m1 q) → Inv G.g.program W R m1 f1
inv_local G W R m m1 f f1 q i e here other h = subst (λ z. Inv G.g.program W R m1 z) (sym e) (record {
  holds = λ r. ⊎_elim (λ (x : r ≡ q). subst (λ z. ConditionInRights G.g.program W R f z (m1 z)) (sym x) h)
      (λ (x : r ≢ q). subst (λ z. ConditionInRights G.g.program W R f r z) (sym (other r x)) (i.holds r))
      (same_or_not name_test r q);
  unborn = λ r k n le. ⊎_elim (λ (x : (k, n) ∷ r ≡ q). absurd (here (ap m (sym x) ∙ i.unborn r k n le)))
      (λ (x : (k, n) ∷ r ≢ q). other ((k, n) ∷ r) x ∙ i.unborn r k n le) (same_or_not name_test ((k, n) ∷ r) q);
  fair = i.fair;
  unknown = i.unknown;
})

module _ (at_stop : AtStop) where
  open at_stop use {
    run as G,
    lives as lv,
    course as c,
    state as s,
    system as u,
    linked as l,
    number as i,
    configuration as d,
    working as at_i,
  }

  abbrev pub q : Name
  q = G.births.name i

  pub here : i < u.births.processes
  here = is_born G lv c s u l i d at_i

  -- what the relation says of it
  pub its : Performs_all G lv q c s (u.births.opens i) (sys.Working d)
  its = subst (λ x. Performs_all G lv q c s (u.births.opens i) x) at_i (l.does i here)

  abbrev pub pr : Process
  pr = its.0

  pub runs_as_pr : running_process G.g s q ≡ Some pr
  runs_as_pr = its.1

  -- how many opens it has made, and that it is not laid down
  pub opens_are : pr.who.opens ≡ u.births.opens i
  opens_are = let (_, _, _, counted, _) = its in counted

  pub unlaid : c.laid q ≡ false
  unlaid = let (_, _, _, _, not_laid) = its in not_laid

  pub alone : IsAlone s q
  alone = inl (pr, runs_as_pr)

  pub keeps_to : Keeps_to G.g.program (W_of G lv) (R_of G lv) s.forks q pr
  keeps_to = (works_well G.g (total_limits G.g) G.free (W_of G lv) (R_of G lv) s l.rights q pr runs_as_pr).0

  pub light : AreLight (weight_of G.g.program) pr.todo
  light = (working_keeps (K G.g) s.condition 0 (s.forks q) q (s.condition q) pr (l.known.well q) runs_as_pr).light

  pub present : s.condition q ≢ Absent
  present e = subst (λ x. IsLive x) e (working_lives s.condition q (s.condition q) pr runs_as_pr)

  pub not_ended : has_ended (s.condition q) ≡ false
  not_ended = go (has_ended (s.condition q)) refl
    where
      go : (b : Bool) → has_ended (s.condition q) ≡ b → b ≡ false
      go true e = absurd (lives_ended (s.condition q) (working_lives s.condition q (s.condition q) pr runs_as_pr) e)
      go false e = refl

  module _ (t : StateOf G.g) (c1 : JournalState) (x : sys.Condition Plain) (f : Bool)
      (other : (r : Name) → r ≢ q → t.condition r ≡ s.condition r) (forks : t.forks ≡ s.forks)
      (pending : t.pending ≡ s.pending) (totals : t.totals ≡ s.totals)
      (stays : (a : Loc) → (t.store a ≡ s.store a) ⊎ OwnOrGiven (W_of G lv) q a) (known : StateKeeps G.g t)
      (left : Process)
      (works : own_part_in t.condition q (t.condition q) ≡ Some left)
      (rights : Keeps_to G.g.program (W_of G lv) (R_of G lv) s.forks q left)
      (since : (r : Name) → r ≢ q → c1.since r ≡ c.since r) (laid : (r : Name) → r ≢ q → c1.laid r ≡ c.laid r)
      (more : c.faulted ≡ true → c1.faulted ≡ true) (faulted : c1.faulted ≡ f) (no_fault : f ≡ false → t.fault ≡ None)
      (unlaid : f ≡ false → (r : Name) → c1.laid r ≡ false)
      (does : Performs_all G lv q c1 t (u.births.opens i) x) (known_x : x ≢ sys.Absent) where
    ended_now : has_ended (t.condition q) ≡ false
    ended_now = go (has_ended (t.condition q)) refl
      where
        go : (b : Bool) → has_ended (t.condition q) ≡ b → b ≡ false
        go true e = absurd (lives_ended (t.condition q) (working_lives t.condition q (t.condition q) left works) e)
        go false e = refl

    absent_not_ended : (y : Condition Process LocationContent Address) → t.condition q ≡ Absent → ⊥
    absent_not_ended y e = subst (λ a. IsLive a) e (working_lives t.condition q (t.condition q) left works)

    ended_same : (r : Name) → has_ended (t.condition r) ≡ has_ended (s.condition r)
    ended_same r = ⊎_elim (λ (e : r ≡ q). ap (λ y. has_ended (t.condition y)) e ∙ ended_now ∙ sym not_ended
        ∙ ap (λ y. has_ended (s.condition y)) (sym e)) (λ (e : r ≢ q). ap (λ y. has_ended y) (other r e))
        (same_or_not name_test r q)

    present_same : (r : Name) → s.condition r ≢ Absent → t.condition r ≢ Absent
    present_same r h e = ⊎_elim (λ (f : r ≡ q). absent_not_ended (t.condition q)
        (subst (λ a. t.condition a ≡ Absent) f e)) (λ (f : r ≢ q). h (sym (other r f) ∙ e)) (same_or_not name_test r q)

    abbrev pub u1 : System Plain
    u1 = record u { condition = at_key ◌==◌ i x u.condition; faulted = f }

    at_this : u1.condition i ≡ x
    at_this = ap (λ b. cond b x (u.condition i)) (eq-eqb i i refl)

    at_other : (j : ℕ) → i ≢ j → u1.condition j ≡ u.condition j
    at_other j e = go (i == j) refl
      where
        go : (b : Bool) → i == j ≡ b → cond b x (u.condition j) ≡ u.condition j
        go true h = absurd (e (eqb-true i j h))
        go false h = refl

    all_do : (j : ℕ) → j < u.births.processes
        → Performs_all G lv (G.births.name j) c1 t (u.births.opens j) (u1.condition j)
    all_do j lt = ⊎_elim
        (λ (e : i ≡ j). subst (λ y. Performs_all G lv (G.births.name y) c1 t (u.births.opens y) (u1.condition y)) e
        (subst (λ y. Performs_all G lv q c1 t (u.births.opens i) y) (sym at_this) does))
        (λ (e : i ≢ j). (let apart : G.births.name j ≢ q = λ h. e (G.one_name i j (few i here) (few j lt) (sym h)) in
        subst (λ y. Performs_all G lv (G.births.name j) c1 t (u.births.opens j) y) (sym (at_other j e))
        (does_stay G lv s t l.known.sound l.rights.fair q alone stays (G.births.name j) apart
        (other (G.births.name j) apart) (λ k n. ended_same ((k, n) ∷ G.births.name j))
        (λ k n. present_same ((k, n) ∷ G.births.name j)) c c1 (since (G.births.name j) apart)
        (laid (G.births.name j) apart) more (u.births.opens j) (u.condition j) (l.does j lt))))
        (number_or i j)
      where
        few : (j : ℕ) → j < u.births.processes → j < G.births.processes
        few j lt = let a = l.began.processes in omega (arith, lt, a)

    pub linked_local : Linked G lv c1 t u1
    linked_local = record {
      rights = inv_local G (W_of G lv) (R_of G lv) s.condition t.condition s.forks t.forks q l.rights forks present
          other (holds_by G (W_of G lv) (R_of G lv) t.condition s.forks q (t.condition q) left works rights);
      known = known;
      reads_output = l.reads_output;
      began = l.began;
      open_is = l.open_is;
      forks = λ j lt. ap (λ y. y (G.births.name j)) forks ∙ l.forks j lt;
      processes = ap (λ (y : Rattle.sp_meaning.specs.Model.Totals). y.processes) totals ∙ l.processes;
      channels = ap (λ (y : Rattle.sp_meaning.specs.Model.Totals). y.channels) totals ∙ l.channels;
      entries = ap (λ (y : Rattle.sp_meaning.specs.Model.Totals). y.entries) totals ∙ l.entries;
      pending = λ j lt. subst (λ y. IsPending G (y (Rattle.sp_journal.specs.Births.channel G.births j)) (u.pending j))
          (sym pending) (l.pending j lt);
      none_pending = l.none_pending;
      fresh_since = λ r e. ⊎_elim (λ (y : r ≡ q). absurd
          (absent_not_ended (t.condition q) (subst (λ a. t.condition a ≡ Absent) y e)))
          (λ (y : r ≢ q). since r y ∙ l.fresh_since r (sym (other r y) ∙ e)) (same_or_not name_test r q);
      faulted = faulted;
      no_fault = no_fault;
      unlaid = unlaid;
      does = all_do;
      unborn = λ j le. at_other j (λ e. let a = here in omega (arith, a, le, e)) ∙ l.unborn j le;
      unmade = l.unmade;
      numbered = λ r h. ⊎_elim (λ (e : r ≡ q). (i, here, sym e)) (λ (e : r ≢ q). l.numbered r (λ a. h (other r e ∙ a)))
          (same_or_not name_test r q);
    }
