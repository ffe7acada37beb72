-- The entry `End` on both sides: of the first process (`root_ends`), and of a child, whose pieces go back to its
-- parent, which joins on or runs (`child_ends`).
use Rattle.std.proofs.Common.{◌≡◌, ◌⊎◌, inl, ⊎_elim, ℕ, zero, suc, ◌-◌, ◌<◌, ◌≤◌, ◌==◌, List, [], ◌∷◌, length, Option}
use Rattle.std.proofs.Common.{Some, None, Bool, true, false, cond, if◌then◌else◌, eqb-true, eq-eqb, refl, sym, ap, ◌∙◌}
use Rattle.std.proofs.Common.{subst, arith}
use Rattle.std.specs.Prelude.{◌≢◌}
use Rattle.std.proofs.lemmas.Bool.{ne_eqb}
use Rattle.std.proofs.lemmas.Option.{none-some, same_Some}
use Rattle.sp_journal.specs.declared.entry.Birth.{Birth}
use Rattle.sp_journal.specs.declared.entry.Event.TheVariants as event
use Rattle.sp_journal.specs.Births.{happening}
use Rattle.sp_journal.specs.Maps.{at_key}
use Rattle.sp_cell.specs.Map.{Plain, output_of}
use Rattle.sp_meaning.specs.Model.{Name, Condition, Absent, Waits, Joins, Ended, Becomes, with_change}
use Rattle.sp_meaning.specs.Steps.{has_ended, own_part_in, JoinsAt, IsAlive as IsLive}
use Rattle.sp_journal.specs.Names as happenings
use Rattle.sp_meaning.specs.LocalWork.{LocationContent, Address, LocalState, Process, WorkOutcome, Computed}
use Rattle.sp_meaning.specs.Actions.{Action}
use Rattle.sp_meaning.specs.Actions as actions
use Rattle.sp_meaning.specs.SuperPascal.{superpascal}
use Rattle.sp_meaning.specs.Run.{Store}
use Rattle.sp_meaning.specs.Runs.{StateOf, total_limits, next_state, happening_at}
use Rattle.sp_meaning.specs.Along.{JournalState, ticks_in, ticks_of, with_ticks}
use Rattle.sp_meaning.specs.Turn as source
use Rattle.sp_meaning.proofs.Keys.{name_test, number_or}
use Rattle.sp_meaning.proofs.Maps.{at_same, at_other, same_or_not}
use Rattle.sp_meaning.proofs.RightsInvariant.{Inv}
use Rattle.sp_meaning.proofs.Parallel.{alone_childless}
use Rattle.sp_meaning.proofs.StepLaws.{StateKeeps, step_well, raised, lowered}
use Rattle.sp_meaning.proofs.Sound.{step_sound}
use Rattle.sp_meaning.proofs.Status.{working_lives}
use Rattle.sp_code.specs.Machine.{Config, At}
use Rattle.sp_code.specs.Machine as machine
use Rattle.sp_code.specs.Turns.{Turn, Stopped, IsTurn}
use Rattle.sp_code.specs.Memory.{Memory}
use Rattle.sp_code.specs.PlainStore.{plain}
use Rattle.sp_code.specs.System.{System, system_after_turn, event_of, parent_after_join, apply_end, becomes}
use Rattle.sp_code.specs.System as sys
use Rattle.sp_link.proofs.Journal.{IsOpen, now_by}
use Rattle.sp_link.proofs.KernelSteps.{kernel_next, kernel_says, stand_dead}
use Rattle.sp_link.proofs.OneChanges.{here, inv_local, since_other}
use Rattle.sp_link.proofs.Pauses.{Entry_of, Meant, turn_is, after_no_fault, way_of_step, makes_step}
use Rattle.sp_link.proofs.Rejoins.{memory_after, joins_on, runs_on, one_fewer, all_over}
use Rattle.sp_link.proofs.Relation.{W_of, R_of, St, ProcessMatches, Joined, Performs_all}
use Rattle.sp_link.proofs.Relation.{Linked, Began, run_is}
use Rattle.sp_link.proofs.Relation.{ops, left_of}
use Rattle.sp_link.proofs.OthersStay.{does_stay}
use Rattle.sp_meaning.proofs.SilentActions.{IsDead}
use Rattle.sp_journal.proofs.BirthLaws.{Born}
use Rattle.sp_link.proofs.AtStop.{same_but_dead, w, p1, alone_at, known_at, rights_at, ended_at, other_name, does_at}
use Rattle.sp_link.proofs.Relation.{AtStop}
use Rattle.sp_link.proofs.Pauses.{MatchesNow, EndsAt}

module _ (at_stop : AtStop) (z : MatchesNow at_stop)
    (o : LocalState) (m : Store) (x : Meant at_stop z (Computed (source.Stops actions.Ended) o, m))
    (t : EndsAt at_stop z o m)
    (no_fault : at_stop.system.faulted ≡ false) where
  open at_stop use {
    run as G,
    lives as lv,
    course as c,
    state as s,
    system as u,
    linked as l,
    number as i,
    configuration as d,
  }

  abbrev v : Name
  v = w at_stop

  abbrev r : WorkOutcome Action × Store
  r = (Computed actions.Ended o, m)

  said : happening_at G.g x.state v x.left ≡ Some happenings.Ended
  said = kernel_says G.g v x.state x.left x.runs r x.does

  abbrev t1 : StateOf G.g
  t1 = with_change {L = superpascal G.g} (Becomes v Ended) x.state

  goes_next : next_state G.g x.state v ≡ Some t1
  goes_next = kernel_next G.g v x.state x.left x.runs r x.does

  abbrev c1 : JournalState
  c1 = with_ticks v (ticks_of G.g t1 v) c

  gone : t1.condition v ≡ Ended
  gone = at_same name_test x.state.condition v Ended

  same : (a : Name) → a ≢ v → t1.condition a ≡ x.state.condition a
  same a e = at_other name_test x.state.condition v a Ended (λ h. e (sym h))

  known_then : StateKeeps G.g x.state
  known_then = known_at at_stop z r x happenings.Ended said

  known_now : StateKeeps G.g t1
  known_now = record {
    sound = step_sound (total_limits G.g) x.state v t1 known_then.sound goes_next;
    well = lowered G.g (λ a. ticks_in (x.state.condition a)) t1
        (step_well G.g x.state known_then.sound v (raised G.g x.state known_then.well) t1 goes_next);
  }

  rights_then : Inv G.g.program (W_of G lv) (R_of G lv) x.state.condition x.state.forks
  rights_then = rights_at at_stop z r x happenings.Ended said

  rights_now : Inv G.g.program (W_of G lv) (R_of G lv) t1.condition t1.forks
  rights_now = inv_local G (W_of G lv)
      (R_of G lv) x.state.condition t1.condition x.state.forks t1.forks v rights_then refl
      (λ e. subst (λ a. IsLive a) e (working_lives x.state.condition v (x.state.condition v) x.left x.runs)) same
      (subst (λ a. Rattle.sp_meaning.proofs.RightsInvariant.ConditionInRights G.g.program (W_of G lv)
      (R_of G lv) x.state.forks v a)
      (sym gone) tt)

  -- one that is not its parent
  does_other : (j : ℕ) → j < u.births.processes → i ≢ j → ((k n : ℕ) → (k, n) ∷ G.births.name j ≢ v)
      → Performs_all G lv (G.births.name j) c1 t1 (u.births.opens j) (u.condition j)
  does_other j lt e far =
      let apart = other_name at_stop z r x happenings.Ended said j lt e in
      does_stay G lv x.state t1 known_then.sound rights_then.fair v
      (alone_at at_stop z r x happenings.Ended said) (λ a. inl refl) (G.births.name j) apart
      (same (G.births.name j) apart)
      (λ k n. ap (λ a. has_ended a) (same ((k, n) ∷ G.births.name j) (far k n)))
      (λ k n h e. h (sym (same ((k, n) ∷ G.births.name j) (far k n)) ∙ e)) c c1
      (since_other c v (ticks_of G.g t1 v) (G.births.name j) apart) refl (λ h. h) (u.births.opens j) (u.condition j)
      (does_at at_stop z r x happenings.Ended said j lt e)

  -- what it leaves
  abbrev n1 : Memory Plain
  n1 = record (t.memory) { since = t.memory.ticks }

  abbrev left_it : Config (Memory Plain)
  left_it = At t.pc t.stack n1

  abbrev tn : Turn (Memory Plain)
  tn = Stopped machine.Ends (At t.pc t.stack t.memory)

  tn_is : IsTurn (ops G) G.code d (Stopped machine.Ends (At t.pc t.stack t.memory))
  tn_is = turn_is at_stop z (Stopped machine.Ends (At t.pc t.stack t.memory)) (
    At t.pc t.stack t.memory,
    t.comes,
    t.stops,
  )

  stood : St G (lv v) (λ a b. lv ((a, b) ∷ v)) v (p1 at_stop).who (c.since v) (lv v).below o x.state.store
      t.memory
  stood = subst (λ y. St G (lv v) (λ a b. lv ((a, b) ∷ v)) v (p1 at_stop).who (c.since v) y o
      x.state.store
      t.memory) t.frames_are
      (stand_dead G (lv v) (λ a b. lv ((a, b) ∷ v)) v t.stand x.state.store
      (λ a. subst (λ y. (x.state.store a ≡ m a) ⊎ IsDead y a) lengths
      (same_but_dead at_stop z actions.Ended o m x tt a)))
    where
      count : (js : List Rattle.sp_codegen.specs.FramePairs.FramePair)
          → length (Rattle.sp_codegen.specs.FramePairs.sources js) ≡ length js
      count js = Rattle.sp_codegen.proofs.FramePairs.sources_length js

      lengths : length o.frames ≡ length t.frames
      lengths = ap (λ y. length y) t.stand.frames.sources_are ∙ count t.frames

  moved_here : t.memory.store.moved ≡ (lv v).moved
  moved_here = stood.moved_is

  no_absent : ◌≡◌ {A = Condition Process LocationContent Address} Ended Absent → ⊥
  no_absent e = cc e

  -- the relation, once each process does what it should
  linked_by : (u1 : System Plain) → u1.births ≡ u.births → u1.pending ≡ u.pending → u1.faulted ≡ u.faulted
      → u1.entries ≡ u.entries
      → ((j : ℕ) → j < u.births.processes → Performs_all G lv (G.births.name j) c1 t1 (u.births.opens j)
      (u1.condition j)) → ((j : ℕ) → u.births.processes ≤ j → u1.condition j ≡ sys.Absent) → Linked G lv c1 t1 u1
  linked_by u1 eb ep ef ee does unborn = record {
    rights = rights_now;
    known = known_now;
    reads_output = l.reads_output;
    began = subst (λ y. Began G y) (sym eb) l.began;
    open_is = l.open_is ∙ ap (λ (y : Rattle.sp_journal.specs.Births.Births). y.channels) (sym eb);
    forks = λ j lt. ap (λ y. y (G.births.name j)) x.elsewhere.forks
        ∙ l.forks j (subst (λ y. j < y) (ap (λ (y : Rattle.sp_journal.specs.Births.Births). y.processes) eb) lt)
        ∙ ap (λ (y : Rattle.sp_journal.specs.Births.Births). y.forks j) (sym eb);
    processes = ap (λ (y : Rattle.sp_meaning.specs.Model.Totals). y.processes) x.elsewhere.totals ∙ l.processes
        ∙ ap (λ (y : Rattle.sp_journal.specs.Births.Births). y.processes) (sym eb);
    channels = ap (λ (y : Rattle.sp_meaning.specs.Model.Totals). y.channels) x.elsewhere.totals ∙ l.channels
        ∙ ap (λ (y : Rattle.sp_journal.specs.Births.Births). y.channels) (sym eb);
    entries = ap (λ (y : Rattle.sp_meaning.specs.Model.Totals). y.entries) x.elsewhere.totals ∙ l.entries ∙ sym ee;
    pending = λ j lt. subst (λ y. Rattle.sp_link.proofs.Relation.IsPending G
        (y (Rattle.sp_journal.specs.Births.channel G.births j)) (u1.pending j)) (sym x.elsewhere.pending)
        (subst (λ y. Rattle.sp_link.proofs.Relation.IsPending G
        (s.pending (Rattle.sp_journal.specs.Births.channel G.births j)) (y j)) (sym ep)
        (l.pending j (subst (λ y. j < y) (ap (λ (y : Rattle.sp_journal.specs.Births.Births). y.channels) eb) lt)));
    none_pending = λ j le. ap (λ y. y j) ep ∙ l.none_pending j
        (subst (λ y. y ≤ j) (ap (λ (y : Rattle.sp_journal.specs.Births.Births). y.channels) eb) le);
    faulted = l.faulted ∙ sym ef;
    fresh_since = λ a e. ⊎_elim (λ (y : a ≡ v). absurd
        (no_absent (sym gone ∙ subst (λ b. t1.condition b ≡ Absent) y e)))
        (λ (y : a ≢ v). since_other c v (ticks_of G.g t1 v) a y
        ∙ l.fresh_since a (sym (x.elsewhere.condition a y) ∙ sym (same a y) ∙ e))
        (same_or_not name_test a v);
    no_fault = λ e. x.elsewhere.fault ∙ l.no_fault (sym ef ∙ e);
    unlaid = λ e. l.unlaid (sym ef ∙ e);
    does = λ j lt. subst (λ (y : Rattle.sp_journal.specs.Births.Births). Performs_all G lv (G.births.name j) c1 t1
        (y.opens j) (u1.condition j)) (sym eb)
        (does j (subst (λ y. j < y) (ap (λ (y : Rattle.sp_journal.specs.Births.Births). y.processes) eb) lt));
    unborn = λ j le. unborn j (subst (λ y. y ≤ j) (ap (λ (y : Rattle.sp_journal.specs.Births.Births). y.processes) eb)
        le);
    unmade = λ j le. subst (λ (y : Rattle.sp_journal.specs.Births.Births). (y.forks j ≡ 0) × (y.opens j ≡ 0)) (sym eb)
        (l.unmade j (subst (λ y. y ≤ j) (ap (λ (y : Rattle.sp_journal.specs.Births.Births). y.processes) eb) le));
    numbered = λ a h. subst (λ (y : Rattle.sp_journal.specs.Births.Births). (k : ℕ) × (k < y.processes)
        × (G.births.name k ≡ a)) (sym eb) (⊎_elim (λ (e : a ≡ v). (i, here at_stop, sym e))
        (λ (e : a ≢ v). l.numbered a (λ f. h (same a e ∙ x.elsewhere.condition a e ∙ f))) (same_or_not name_test a v));
  }

  -- of the first process
  pub root_ends : u.births.birth i ≡ None → v ≡ [] → Linked G lv c1 t1 (becomes plain (run_is G) i (sys.Over left_it) u)
  root_ends none is = linked_by (becomes plain (run_is G) i (sys.Over left_it) u) refl refl refl refl
      (λ j lt. ⊎_elim
      (λ (e : i ≡ j). subst (λ y. Performs_all G lv (G.births.name y) c1 t1 (u.births.opens y)
      (at_key ◌==◌ i (sys.Over left_it) u.condition y)) e
      (subst (λ y. Performs_all G lv v c1 t1 (u.births.opens i) y)
      (sym (ap (λ b. cond b (sys.Over left_it) (u.condition i)) (eq-eqb i i refl)))
      (gone, is, λ may. (let y = stood.output may in (y.0, y.1, ap output_of y.2)))))
      (λ (e : i ≢ j). subst (λ y. Performs_all G lv (G.births.name j) c1 t1 (u.births.opens j) y)
      (sym (other_number j e)) (does_other j lt e (λ k n h. no_child k n (h ∙ is))))
      (number_or i j))
      (λ j le. other_number j (λ e. let a = here at_stop in omega (arith, a, le, e)) ∙ l.unborn j le)
    where
      no_child : {a : Name} (k n : ℕ) → (k, n) ∷ a ≡ [] → ⊥
      no_child k n h = cc h

      other_number : (j : ℕ) → i ≢ j → at_key ◌==◌ i (sys.Over left_it) u.condition j ≡ u.condition j
      other_number j e = go (i == j) refl
        where
          go : (b : Bool) → i == j ≡ b → cond b (sys.Over left_it) (u.condition j) ≡ u.condition j
          go true h = absurd (e (eqb-true i j h))
          go false h = refl

  -- of a child
  module _ (b : Birth) (born : u.births.birth i ≡ Some b) (known_parent : b.parent < u.births.processes)
      (older : b.parent ≢ i) (name_is : v ≡ (b.fork, b.child) ∷ G.births.name b.parent) where
    abbrev P : Name
    P = G.births.name b.parent

    abbrev op : ℕ
    op = u.births.opens b.parent

    live_now : IsLive (x.state.condition v)
    live_now = working_lives x.state.condition v (x.state.condition v) x.left x.runs

    live_there : IsLive (x.state.condition ((b.fork, b.child) ∷ P))
    live_there = subst (λ y. IsLive (x.state.condition y)) name_is live_now

    joins_at : JoinsAt b.fork b.child (x.state.condition P)
    joins_at = known_then.sound.joined P b.fork b.child live_there

    parent_apart : P ≢ v
    parent_apart = other_name at_stop z r x happenings.Ended said b.parent known_parent
        (λ e. older (sym e))

    at_parent : t1.condition P ≡ x.state.condition P
    at_parent = same P parent_apart

    not_alone : Rattle.sp_meaning.proofs.Parallel.IsAlone x.state P → ⊥
    not_alone a = alone_childless x.state P b.fork b.child a live_there joins_at

    abbrev dx : ℕ → Config (Memory Plain) → sys.Condition Plain
    dx left e = if left == 1 then sys.Working e else sys.Joins (left - 1) e

    -- the parent, at the fork whose child this is
    module _ (left : ℕ) (dd : Config (Memory Plain)) (k n : ℕ) (pr : Process)
        (at_join : x.state.condition P ≡ Joins k n pr)
        (zj : Joined G (lv P) (λ a e. lv ((a, e) ∷ P)) P (c.since P) k n left pr x.state dd)
        (opens_are : pr.who.opens ≡ op) (unlaid : c.laid P ≡ false) where
      j : JoinsAt {O = Process} {V = LocationContent} {T = Address} b.fork b.child (Joins k n pr)
      j = subst (λ y. JoinsAt {O = Process} {V = LocationContent} {T = Address} b.fork b.child y) at_join joins_at

      vy : v ≡ (k, b.child) ∷ P
      vy = name_is ∙ ap (λ y. (y, b.child) ∷ P) (sym j.0)

      yet : has_ended (x.state.condition ((k, b.child) ∷ P)) ≡ false
      yet = subst (λ y. has_ended (x.state.condition y) ≡ false) vy
          (ended_at at_stop z r x happenings.Ended said)

      stood_there : St G (lv ((k, b.child) ∷ P)) (λ a e. lv ((a, e) ∷ (k, b.child) ∷ P)) ((k, b.child) ∷ P)
          (p1 at_stop).who (c.since v) (lv ((k, b.child) ∷ P)).below o x.state.store t.memory
      stood_there = subst (λ y. St G (lv y) (λ a e. lv ((a, e) ∷ y)) y (p1 at_stop).who (c.since v)
          (lv y).below o x.state.store t.memory) vy stood

      moved_there : t.memory.store.moved ≡ (lv ((k, b.child) ∷ P)).moved
      moved_there = subst (λ y. t.memory.store.moved ≡ (lv y).moved) vy moved_here

      abbrev t2 : StateOf G.g
      t2 = with_change {L = superpascal G.g} (Becomes ((k, b.child) ∷ P) Ended) x.state

      state_same : t2 ≡ t1
      state_same = ap (λ y. with_change {L = superpascal G.g} (Becomes y Ended) x.state) (sym vy)

      abbrev left1 : ℕ
      left1 = left_of G (lv P) (λ a e. lv ((a, e) ∷ P)) P t2.condition k n

      fewer : left ≡ suc left1
      fewer = one_fewer G lv P (c.since P) k n left b.child pr x.state dd zj j.1 yet

      abbrev after_it : Config (Memory Plain)
      after_it = At zj.pc zj.stack
          (memory_after G lv P (c.since P) k n left b.child pr x.state dd zj j.1 yet stood_there
          moved_there)

      config_is : sys.on_store (λ y. plain.joined y (sys.store_of left_it)) dd ≡ after_it
      config_is = ap (λ y. sys.on_store (λ y. plain.joined y (sys.store_of left_it)) y) zj.configuration_is

      there : t2.condition P ≡ Joins k n pr
      there = ap (λ (y : StateOf G.g). y.condition P) state_same ∙ at_parent ∙ at_join

      by_left : (a : Bool) → left == 1 ≡ a → Performs_all G lv P c1 t2 op
          (if a then sys.Working after_it else sys.Joins (left - 1) after_it)
      by_left true e =
          let none : left1 ≡ 0 = omega (arith, fewer, eqb-true left 1 e) in (
            pr,
            ap (own_part_in t2.condition P) there
                ∙ ap (λ a. if a then Some pr else None)
                (all_over G lv P (c.since P) k n left b.child pr x.state dd zj j.1 yet t2.condition n none),
            inl (subst (λ y. ProcessMatches G (lv P) (λ a e. lv ((a, e) ∷ P)) P y pr t2.store after_it)
                (sym (since_other c v (ticks_of G.g t1 v) P parent_apart))
                (runs_on G lv P (c.since P) k n left b.child pr x.state dd zj j.1 yet stood_there moved_there none)),
            opens_are,
            unlaid,
          )
      by_left false e =
          let some : 1 ≤ left1 = more e fewer in (
            k,
            n,
            pr,
            there,
            subst (λ y. Joined G (lv P) (λ a e. lv ((a, e) ∷ P)) P (c1.since P) k n y pr t2 after_it) (sym less)
                (subst (λ y. Joined G (lv P) (λ a e. lv ((a, e) ∷ P)) P y k n left1 pr t2 after_it)
                (sym (since_other c v (ticks_of G.g t1 v) P parent_apart))
                (joins_on G lv P (c.since P) k n left b.child pr x.state dd zj j.1 yet stood_there moved_there some)),
            opens_are,
            unlaid,
          )
        where
          less : left - 1 ≡ left1
          less = omega (arith, fewer)

          more : left == 1 ≡ false → left ≡ suc left1 → 1 ≤ left1
          more f h = go left1 h
            where
              go : (y : ℕ) → left ≡ suc y → 1 ≤ y
              go zero g = absurd (let a : true ≡ false = sym (eq-eqb left 1 g) ∙ f in cc a)
              go (suc y) g = omega arith

      rejoins : Performs_all G lv P c1 t1 op (dx left (sys.on_store (λ y. plain.joined y (sys.store_of left_it)) dd))
      rejoins = subst (λ y. Performs_all G lv P c1 t1 op (dx left y)) (sym config_is)
          (subst (λ y. Performs_all G lv P c1 y op (dx left after_it)) state_same (by_left (left == 1) refl))

    rejoin : (X : sys.Condition Plain) → Performs_all G lv P c x.state op X
        → Performs_all G lv P c1 t1 op (parent_after_join plain (run_is G) left_it X)
    rejoin sys.Absent h = absurd h
    rejoin (sys.Working dd) h = absurd (not_alone (inl (h.0, h.1)))
    rejoin (sys.Waits y dd) h = absurd (subst (λ a. JoinsAt b.fork b.child a) h.1 joins_at)
    rejoin (sys.Joins left dd) (k, n, pr, joins, t, opens_are, not_laid) =
        rejoins left dd k n pr joins t opens_are not_laid
    rejoin (sys.Laid dd) h = absurd (not_alone (inl h.2))
    rejoin sys.Gone h = absurd (subst (λ a. JoinsAt b.fork b.child a) h.0 joins_at)
    rejoin (sys.Over dd) h = absurd (subst (λ a. JoinsAt b.fork b.child a) h.0 joins_at)

    abbrev pub u1 : System Plain
    u1 = becomes plain (run_is G) b.parent (parent_after_join plain (run_is G) left_it (u.condition b.parent))
        (becomes plain (run_is G) i sys.Gone u)

    at_p : u1.condition b.parent ≡ parent_after_join plain (run_is G) left_it (u.condition b.parent)
    at_p = ap (λ y. cond y (parent_after_join plain (run_is G) left_it (u.condition b.parent))
        (cond (i == b.parent) sys.Gone (u.condition b.parent))) (eq-eqb b.parent b.parent refl)

    at_else : (a : ℕ) → b.parent ≢ a → u1.condition a ≡ cond (i == a) sys.Gone (u.condition a)
    at_else a e = ap (λ y. cond y (parent_after_join plain (run_is G) left_it (u.condition b.parent))
        (cond (i == a) sys.Gone (u.condition a))) (ne_eqb b.parent a e)

    at_far : (a : ℕ) → b.parent ≢ a → i ≢ a → u1.condition a ≡ u.condition a
    at_far a e f = at_else a e ∙ ap (λ y. cond y sys.Gone (u.condition a)) (ne_eqb i a f)

    no_empty : {a : Name} → (b.fork, b.child) ∷ a ≡ [] → ⊥
    no_empty h = cc h

    pub child_ends : Linked G lv c1 t1 u1
    child_ends = linked_by u1 refl refl refl refl
        (λ a lt. ⊎_elim
        (λ (e : b.parent ≡ a). subst (λ y. Performs_all G lv (G.births.name y) c1 t1 (u.births.opens y)
        (u1.condition y)) e (subst (λ y. Performs_all G lv P c1 t1 op y) (sym at_p)
        (rejoin (u.condition b.parent) (does_at at_stop z r x happenings.Ended said b.parent
        known_parent (λ h. older (sym h))))))
        (λ (e : b.parent ≢ a). ⊎_elim
        (λ (f : i ≡ a). subst (λ y. Performs_all G lv (G.births.name y) c1 t1 (u.births.opens y) (u1.condition y)) f
        (subst (λ y. Performs_all G lv v c1 t1 (u.births.opens i) y)
        (sym (at_else i (λ h. older h) ∙ ap (λ y. cond y sys.Gone (u.condition i)) (eq-eqb i i refl)))
        (gone, λ h. no_empty (sym name_is ∙ h))))
        (λ (f : i ≢ a). subst (λ y. Performs_all G lv (G.births.name a) c1 t1 (u.births.opens a) y) (sym (at_far a e f))
        (does_other a lt f (λ k n h. e (sym
        (G.one_name a b.parent (few a lt) (few b.parent known_parent) (ends_alike k n a (h ∙ name_is)))))))
        (number_or i a))
        (number_or b.parent a))
        (λ a le. at_far a (λ h. omega (arith, known_parent, le, h))
        (λ h. let y = here at_stop in omega (arith, y, le, h)) ∙ l.unborn a le)
      where
        few : (a : ℕ) → a < u.births.processes → a < G.births.processes
        few a lt = let y = l.began.processes in omega (arith, lt, y)

        ends_alike : (k n a : ℕ) → (k, n) ∷ G.births.name a ≡ (b.fork, b.child) ∷ P → G.births.name a ≡ P
        ends_alike k n a h = cc h

  -- ---- the entry

  by_birth : (y : Option Birth) → u.births.birth i ≡ y
      → Linked G lv c1 t1 (record (apply_end plain (run_is G) i left_it y u) { births = u.births })
  by_birth None e = root_ends e (first i refl)
    where
      first : (k : ℕ) → i ≡ k → v ≡ []
      first zero h = sym (l.began.names i (here at_stop)) ∙ ap (λ y. u.births.name y) h ∙ l.began.root.1
      first (suc k) h = let y = l.began.born i (omega (arith, h)) (here at_stop) in
          absurd (none-some y.birth (sym e ∙ y.birth_is))
  by_birth (Some b) e = child_ends b e (omega (arith, older, lt)) (λ h. omega (arith, older, h))
      (sym (l.began.names i lt) ∙ named ∙ ap (λ y. (b.fork, b.child) ∷ y)
      (l.began.names b.parent (omega (arith, older, lt))))
    where
      lt : i < u.births.processes
      lt = here at_stop

      above : (k : ℕ) → i ≡ k → 0 < i
      above zero h = absurd (none-some b (sym l.began.root.0 ∙ ap (λ y. u.births.birth y) (sym h) ∙ e))
      above (suc k) h = omega (arith, h)

      of : Born u.births i
      of = l.began.born i (above i refl) lt

      is : of.birth ≡ b
      is = same_Some of.birth b (sym of.birth_is ∙ e)

      older : b.parent < i
      older = subst (λ (y : Birth). y.parent < i) is of.older

      named : u.births.name i ≡ (b.fork, b.child) ∷ u.births.name b.parent
      named = of.named ∙ ap (λ (y : Birth). (y.fork, y.child) ∷ u.births.name y.parent) is

  pub finishing : Entry_of G c s u i d
  finishing = record {
    turn = tn;
    is_turn = tn_is;
    way = way_of_step at_stop x.steps x.state (x.turn happenings.Ended said) happenings.Ended t1
        (makes_step at_stop x.state t1 x.left happenings.Ended no_fault x.runs said goes_next) _ (sym told);
    speaks = subst (λ a. IsOpen u.births (if a then event.Laid else event.End)) (sym no_fault) tt;
    lives = lv;
    linked = λ began. now_by G lv c1 t1 (system_after_turn plain (run_is G) i tn u)
        (subst (λ y. Linked G lv c1 t1 y) (sym (after_no_fault G i tn u no_fault)) (by_birth (u.births.birth i) refl));
  }
    where
      told : happening u.births (event_of G.g.limits u tn) ≡ happenings.Ended
      told = ap (λ a. happening u.births (if a then event.Laid else event.End)) no_fault
