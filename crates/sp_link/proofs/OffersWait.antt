-- The entry `Send` or `Receive` on both sides where nothing is pending on the channel: the offer waits
-- (`waiting_entry`).
use Rattle.std.proofs.Common.{◌≡◌, ◌⊎◌, inl, ⊎_elim, ℕ, ◌+◌, ◌<◌, ◌==◌, List, ◌∷◌, length, Option, Some, None, false}
use Rattle.std.proofs.Common.{cond, if◌then◌else◌, eq-eqb, refl, sym, ap, ◌∙◌, subst, arith}
use Rattle.std.specs.Prelude.{◌≢◌, nat_lt}
use Rattle.std.proofs.lemmas.Bool.{ne_eqb}
use Rattle.sp_journal.specs.Births.{channel}
use Rattle.sp_meaning.proofs.RightsInvariant.{ConditionInRights}
use Rattle.sp_meaning.proofs.Keys.{channel_test, name_test, number_or}
use Rattle.sp_link.proofs.AfterEntry.{stand_again, follows_again, payload_again}
use Rattle.sp_base.specs.declared.fault.Fault.{Fault}
use Rattle.sp_journal.specs.declared.entry.Way.{Way}
use Rattle.sp_journal.specs.declared.entry.Way.TheVariants as way
use Rattle.sp_journal.specs.declared.entry.Event.TheVariants as event
use Rattle.sp_journal.specs.Births.{happening}
use Rattle.sp_journal.specs.Maps.{at_key}
use Rattle.sp_cell.specs.Map.{Plain}
use Rattle.sp_meaning.specs.Model.{Name, Condition, Absent, Waits, with_changes as After, same_channel, Channel}
use Rattle.sp_meaning.specs.Model.{Payload}
use Rattle.sp_meaning.specs.Model.{Message, Takes, Totals}
use Rattle.sp_meaning.specs.Steps.{has_ended, IsAlive as IsLive, OfferOf, waiting_changes, entry_cost, way_of, Advances}
use Rattle.sp_meaning.specs.Steps.{step_outcome}
use Rattle.sp_meaning.specs.Steps.{limit_fault, fault_or, offer_outcome}
use Rattle.sp_meaning.specs.Entries.{Happening, Offered as Is_offered}
use Rattle.sp_meaning.specs.LocalWork.{LocationContent, Address, LocalState, Process, WorkOutcome, Computed, Written}
use Rattle.sp_meaning.specs.LocalWork.{Item, Tree, Position}
use Rattle.sp_meaning.specs.Actions.{Action, Offered}
use Rattle.sp_meaning.specs.SuperPascal.{with_todo, superpascal}
use Rattle.sp_meaning.specs.Run.{Store}
use Rattle.sp_meaning.specs.Runs.{StateOf, total_limits, next_state, happening_at}
use Rattle.sp_meaning.specs.Along.{JournalState, ticks_in, ticks_of, with_ticks}
use Rattle.sp_meaning.specs.Turn as source
use Rattle.sp_meaning.proofs.Maps.{at_same, at_other, differs, same_or_not}
use Rattle.sp_meaning.proofs.RightsInvariant.{Inv}
use Rattle.sp_meaning.proofs.StepLaws.{StateKeeps, step_well, raised, lowered}
use Rattle.sp_meaning.proofs.Sound.{step_sound}
use Rattle.sp_meaning.proofs.Status.{working_lives}
use Rattle.sp_code.specs.Machine.{Config, At}
use Rattle.sp_code.specs.Machine as machine
use Rattle.sp_code.specs.Turns.{Turn, Stopped, IsTurn}
use Rattle.sp_code.specs.Memory.{Memory}
use Rattle.sp_code.specs.PlainStore.{plain}
use Rattle.sp_code.specs.System.{System, system_after_turn, event_of}
use Rattle.sp_code.specs.System as sys
use Rattle.sp_link.proofs.Messages.{owned_ready}
use Rattle.sp_link.proofs.Journal.{IsOpen, now_by}
use Rattle.sp_link.proofs.KernelSteps.{kernel_next, kernel_says, stand_dead}
use Rattle.sp_link.proofs.OneChanges.{here, inv_local, since_other}
use Rattle.sp_link.proofs.Pauses.{Entry_of, Meant, Kept_to, turn_is, after_no_fault, way_of_step, makes_step}
use Rattle.sp_link.proofs.Relation.{W_of, R_of, ProcessMatches, Performs_all, Ca, IsPending}
use Rattle.sp_link.proofs.Relation.{Linked, run_is, ops}
use Rattle.sp_link.proofs.OthersStay.{does_stay}
use Rattle.sp_meaning.proofs.SilentActions.{IsDead}
use Rattle.sp_link.proofs.AtStop.{same_but_dead, w, p1, kt, alone_at, known_at, rights_at, ended_at, other_name}
use Rattle.sp_link.proofs.AtStop.{does_at}
use Rattle.sp_link.proofs.Relation.{AtStop}
use Rattle.sp_link.proofs.Pauses.{MatchesNow, OffersAt}
use Rattle.sp_link.proofs.OneChanges.{opens_are, unlaid}

module _ (at_stop : AtStop) (z : MatchesNow at_stop)
    (ch : Channel) (kd : ℕ) (cg : Payload LocationContent Address) (todo : List Item) (o : LocalState) (m : Store)
    (x : Meant at_stop z (Computed (source.Stops (Offered ch kd cg todo)) o, m))
    (t : OffersAt at_stop z ch kd cg todo o m)
    (y : Kept_to at_stop z (Computed (source.Stops (Offered ch kd cg todo)) o, m))
    (no_fault : at_stop.system.faulted ≡ false)
    (alone_there : at_stop.state.pending ch ≡ None)
    (enough : nat_lt at_stop.run.g.limits.entries (at_stop.system.entries + 1) ≡ false) where
  open at_stop use {
    run as G,
    lives as lv,
    course as c,
    state as s,
    system as u,
    linked as l,
    number as i,
    configuration as d,
  }

  abbrev v : Name
  v = w at_stop

  abbrev r : WorkOutcome Action × Store
  r = (Computed (Offered ch kd cg todo) o, m)

  abbrev off : OfferOf (superpascal G.g)
  off = record { channel = ch; kind = kd; payload = cg; next = with_todo todo x.left.who o }

  totals_are : x.state.totals ≡ s.totals
  totals_are = x.elsewhere.totals

  passes : limit_fault (total_limits G.g) x.state.totals (Some entry_cost) ≡ None
  passes =
      ap (λ (a : Totals). limit_fault (total_limits G.g) a (Some entry_cost)) totals_are
      ∙ ap (λ n. if nat_lt G.g.limits.entries (n + 1) then
      Some Rattle.sp_base.specs.declared.fault.Fault.TheVariants.F15 else None) l.entries
      ∙ ap (λ b. if b then Some Rattle.sp_base.specs.declared.fault.Fault.TheVariants.F15 else None) enough

  none_there : x.state.pending ch ≡ None
  none_there = ap (λ a. a ch) x.elsewhere.pending ∙ alone_there

  outcome_is : step_outcome {L = superpascal G.g} (total_limits G.g) x.state v
      (Rattle.sp_meaning.specs.Model.Offering off)
      ≡ Advances (waiting_changes {L = superpascal G.g} x.state v off)
  outcome_is = ap (λ a. fault_or a (offer_outcome {L = superpascal G.g} x.state v off (x.state.pending ch))) passes
      ∙ ap (λ a. offer_outcome {L = superpascal G.g} x.state v off a) none_there

  abbrev t1 : StateOf G.g
  t1 = After {L = superpascal G.g} (waiting_changes {L = superpascal G.g} x.state v off) x.state

  said : happening_at G.g x.state v x.left ≡ Some (Is_offered (way_of cg) ch)
  said = kernel_says G.g v x.state x.left x.runs r x.does
      ∙ ap (λ a. Rattle.sp_meaning.specs.Runs.happening_of {L = superpascal G.g}
      (Rattle.sp_meaning.specs.Model.Offering off)
      a) outcome_is

  goes_next : next_state G.g x.state v ≡ Some t1
  goes_next = kernel_next G.g v x.state x.left x.runs r x.does
      ∙ ap (λ a. Some (Rattle.sp_meaning.specs.Steps.result_of {L = superpascal G.g} x.state v a)) outcome_is

  abbrev what : Happening
  what = Is_offered (way_of cg) ch

  abbrev c1 : JournalState
  c1 = with_ticks v (ticks_of G.g t1 v) c

  waits : t1.condition v ≡ Waits off
  waits = at_same name_test x.state.condition v (Waits off)

  same : (a : Name) → a ≢ v → t1.condition a ≡ x.state.condition a
  same a e = at_other name_test x.state.condition v a (Waits off) (λ h. e (sym h))

  known_then : StateKeeps G.g x.state
  known_then = known_at at_stop z r x what said

  known_now : StateKeeps G.g t1
  known_now = record {
    sound = step_sound (total_limits G.g) x.state v t1 known_then.sound goes_next;
    well = lowered G.g (λ a. ticks_in (x.state.condition a)) t1
        (step_well G.g x.state known_then.sound v (raised G.g x.state known_then.well) t1 goes_next);
  }

  rights_then : Inv G.g.program (W_of G lv) (R_of G lv) x.state.condition x.state.forks
  rights_then = rights_at at_stop z r x what said

  holds : ConditionInRights G.g.program (W_of G lv) (R_of G lv) x.state.forks v (Waits off)
  holds = (
    record {
      named = x.good.named;
      forked = ap (λ (a : Rattle.sp_meaning.specs.LocalWork.Identity). a.forks) x.who_is
          ∙ (kt at_stop).forked ∙ ap (λ a. a v) (sym x.elsewhere.forks);
      last = (kt at_stop).last;
      fit = y.final.1;
    },
    y.final.0,
  )

  rights_now : Inv G.g.program (W_of G lv) (R_of G lv) t1.condition t1.forks
  rights_now = inv_local G (W_of G lv)
      (R_of G lv) x.state.condition t1.condition x.state.forks t1.forks v rights_then refl
      (λ e. subst (λ a. IsLive a) e (working_lives x.state.condition v (x.state.condition v) x.left x.runs)) same
      (subst (λ a. ConditionInRights G.g.program (W_of G lv) (R_of G lv) x.state.forks v a) (sym waits) holds)

  ended_same : (a : Name) → has_ended (t1.condition a) ≡ has_ended (x.state.condition a)
  ended_same a = ⊎_elim (λ (e : a ≡ v). ap (λ b. has_ended (t1.condition b)) e ∙ ap (λ b. has_ended b) waits
      ∙ sym (ended_at at_stop z r x what said) ∙ ap (λ b. has_ended (x.state.condition b)) (sym e))
      (λ (e : a ≢ v). ap (λ b. has_ended b) (same a e)) (same_or_not name_test a v)

  present_same : (a : Name) → x.state.condition a ≢ Absent → t1.condition a ≢ Absent
  present_same a h e = ⊎_elim (λ (f : a ≡ v). subst (λ b. IsLive b)
      (sym waits ∙ subst (λ b. t1.condition b ≡ Absent) f e) tt) (λ (f : a ≢ v). h (sym (same a f) ∙ e))
      (same_or_not name_test a v)

  does_other : (j : ℕ) → j < u.births.processes → i ≢ j
      → Performs_all G lv (G.births.name j) c1 t1 (u.births.opens j) (u.condition j)
  does_other j lt e =
      let apart = other_name at_stop z r x what said j lt e in
      does_stay G lv x.state t1 known_then.sound rights_then.fair v (alone_at at_stop z r x what said)
      (λ a. inl refl) (G.births.name j) apart (same (G.births.name j) apart)
      (λ k n. ended_same ((k, n) ∷ G.births.name j)) (λ k n. present_same ((k, n) ∷ G.births.name j)) c c1
      (since_other c v (ticks_of G.g t1 v) (G.births.name j) apart) refl (λ h. h) (u.births.opens j) (u.condition j)
      (does_at at_stop z r x what said j lt e)

  -- it stands where it waits
  abbrev n1 : Memory Plain
  n1 = record (t.memory) { since = t.memory.ticks }

  abbrev there : Config (Memory Plain)
  there = At t.pc t.stack n1

  tn_is : IsTurn (ops G) G.code d (Stopped t.stop (At t.pc t.stack t.memory))
  tn_is = turn_is at_stop z (Stopped t.stop (At t.pc t.stack t.memory)) (t.last, t.comes, t.stops)

  name_is : x.left.who.name ≡ v
  name_is = x.good.named

  since_here : c1.since v ≡ t.memory.ticks
  since_here = ap (λ b. cond b (ticks_of G.g t1 v) (c.since v)) (Rattle.sp_meaning.proofs.Maps.itself name_test v)
      ∙ ap ticks_in waits ∙ t.stand.ticks

  abbrev stands : ProcessMatches G (lv v) (λ a b. lv ((a, b) ∷ v)) v (c1.since v) off.next t1.store there
  stands = record {
    fresh = z.fresh;
    named = name_is;
    js = t.frames;
    pc = t.pc;
    stack = t.stack;
    memory = n1;
    configuration_is = refl;
    stand = stand_again G (lv v) (λ a b. lv ((a, b) ∷ v)) v {w = (p1 at_stop).who} {w1 = x.left.who}
        {since = c.since v} {since1 = c1.since v} (ap (λ (a : Rattle.sp_meaning.specs.LocalWork.Identity). a.name)
        x.who_is)
        since_here
        (stand_dead G (lv v) (λ a b. lv ((a, b) ∷ v)) v t.stand x.state.store
        (λ a. subst (λ b. (x.state.store a ≡ m a) ⊎ IsDead b a)
        (ap (λ b. length b) t.stand.frames.sources_are ∙ Rattle.sp_codegen.proofs.FramePairs.sources_length t.frames)
        (same_but_dead at_stop z (Offered ch kd cg todo) o m x tt a)));
    follows = follows_again G (lv v) (λ a b. lv ((a, b) ∷ v)) v z.fresh z.fresh (p1 at_stop).who
        x.left.who z.named name_is (c.since v) (c1.since v) t.pc t.stack t.frames todo t.follows;
  }

  payload : Ca G (lv v) (λ a b. lv ((a, b) ∷ v)) v z.fresh x.left.who name_is (c1.since v) t.frames ch kd cg t.stop
  payload = payload_again G (lv v) (λ a b. lv ((a, b) ∷ v)) v z.fresh z.fresh (p1 at_stop).who x.left.who
      z.named name_is (c.since v) (c1.since v) t.frames ch kd cg t.stop t.carries

  its_does : Performs_all G lv v c1 t1 (u.births.opens i) (sys.Waits t.stop there)
  its_does = (
    off,
    waits,
    stands,
    payload,
    ap (λ (a : Rattle.sp_meaning.specs.LocalWork.Identity). a.opens) x.who_is
        ∙ opens_are at_stop,
    unlaid at_stop,
    owned_ready G t.stop t.pc t.stack t.memory t.owned,
  )

  -- ---- the machine

  module _ (j : ℕ) (named : Rattle.sp_link.proofs.Relation.Named G ch j) where
    is_open : j < u.births.channels
    is_open = subst (λ n. j < n) l.open_is named.0

    nothing_pends : u.pending j ≡ None
    nothing_pends = by (s.pending (channel G.births j)) (u.pending j) (ap (λ a. s.pending a) named.2 ∙ alone_there)
        (l.pending j is_open)
      where
        by : (a : Option Name) (b : Option ℕ) → a ≡ None → IsPending G a b → b ≡ None
        by None None e h = refl
        by None (Some b) e h = absurd h
        by (Some a) None e h = absurd h
        by (Some a) (Some b) e h = absurd (cc e)

    abbrev u1 : System Plain
    u1 = record u {
      condition = at_key ◌==◌ i (sys.Waits t.stop there) u.condition;
      pending = at_key ◌==◌ j (Some i) u.pending;
      entries = u.entries + 1;
    }

    at_other_number : (a : ℕ) → i ≢ a → u1.condition a ≡ u.condition a
    at_other_number a e = ap (λ b. cond b (sys.Waits t.stop there) (u.condition a)) (ne_eqb i a e)

    pends_now : (a : ℕ) → a < u.births.channels → IsPending G (t1.pending (channel G.births a)) (u1.pending a)
    pends_now a lt = ⊎_elim
        (λ (e : j ≡ a). subst (λ b. IsPending G (t1.pending (channel G.births b)) (u1.pending b)) e
        (subst (λ b. IsPending G (cond b (Some v) (x.state.pending (channel G.births j))) (u1.pending j))
        (sym ((channel_test ch (channel G.births j)).1 (sym named.2)))
        (subst (λ b. IsPending G (Some v) (cond b (Some i) (u.pending j))) (sym (eq-eqb j j refl)) (few, refl))))
        (λ (e : j ≢ a). subst (λ b. IsPending G (cond b (Some v) (x.state.pending (channel G.births a))) (u1.pending a))
        (sym (apart e))
        (subst (λ b. IsPending G (x.state.pending (channel G.births a)) (cond b (Some i) (u.pending a)))
        (sym (ne_eqb j a e)) (subst (λ b. IsPending G (b (channel G.births a)) (u.pending a))
        (sym x.elsewhere.pending) (l.pending a lt))))
        (number_or j a)
      where
        few : i < G.births.processes
        few = let a = here at_stop in let b = l.began.processes in omega (arith, a, b)

        apart : j ≢ a → same_channel ch (channel G.births a) ≡ false
        apart e = differs channel_test ch (channel G.births a)
            (λ h. e (G.one_channel j a named.1 (let b = l.began.channels in omega (arith, lt, b)) (named.2 ∙ h)))

    linked : Linked G lv c1 t1 u1
    linked = record {
      rights = rights_now;
      known = known_now;
      reads_output = l.reads_output;
      began = l.began;
      open_is = l.open_is;
      forks = λ a lt. ap (λ b. b (G.births.name a)) x.elsewhere.forks ∙ l.forks a lt;
      processes = (let a = ap (λ (b : Totals). b.processes) totals_are in let b = l.processes in omega (arith, a, b));
      channels = (let a = ap (λ (b : Totals). b.channels) totals_are in let b = l.channels in omega (arith, a, b));
      entries = (let a = ap (λ (b : Totals). b.entries) totals_are in let b = l.entries in omega (arith, a, b));
      fresh_since = λ a e. ⊎_elim (λ (b : a ≡ v). absurd
          (no_absent (sym waits ∙ subst (λ k. t1.condition k ≡ Absent) b e)))
          (λ (b : a ≢ v). since_other c v (ticks_of G.g t1 v) a b
          ∙ l.fresh_since a (sym (x.elsewhere.condition a b) ∙ sym (same a b) ∙ e))
          (same_or_not name_test a v);
      pending = pends_now;
      none_pending = λ a le. ap (λ b. cond b (Some i) (u.pending a))
          (ne_eqb j a (λ e. let b = is_open in omega (arith, b, le, e))) ∙ l.none_pending a le;
      faulted = l.faulted;
      no_fault = λ e. x.elsewhere.fault ∙ l.no_fault e;
      unlaid = l.unlaid;
      does = λ a lt. ⊎_elim
          (λ (e : i ≡ a). subst (λ b. Performs_all G lv (G.births.name b) c1 t1 (u.births.opens b) (u1.condition b)) e
          (subst (λ b. Performs_all G lv v c1 t1 (u.births.opens i) b)
          (sym (ap (λ b. cond b (sys.Waits t.stop there) (u.condition i)) (eq-eqb i i refl))) its_does))
          (λ (e : i ≢ a). subst (λ b. Performs_all G lv (G.births.name a) c1 t1 (u.births.opens a) b)
          (sym (at_other_number a e)) (does_other a lt e))
          (number_or i a);
      unborn = λ a le. at_other_number a (λ e. let b = here at_stop in omega (arith, b, le, e))
          ∙ l.unborn a le;
      unmade = l.unmade;
      numbered = λ a h. ⊎_elim (λ (e : a ≡ v). (i, here at_stop, sym e))
          (λ (e : a ≢ v). l.numbered a (λ f. h (same a e ∙ x.elsewhere.condition a e ∙ f))) (same_or_not name_test a v);
    }
      where
        no_absent : ◌≡◌ {A = Condition Process LocationContent Address} (Waits off) Absent → ⊥
        no_absent e = cc e

    -- what the machine's turn makes of its system, for either way
    abbrev u1_of : machine.Stop → System Plain
    u1_of st = record u {
      condition = at_key ◌==◌ i (sys.Waits st there) u.condition;
      pending = at_key ◌==◌ j (Some i) u.pending;
      entries = u.entries + 1;
    }

    abbrev turn_of : machine.Stop → Turn (Memory Plain)
    turn_of st = Stopped st (At t.pc t.stack t.memory)

    abbrev or_f15 : Option Fault
    or_f15 = if nat_lt G.g.limits.entries (u.entries + 1) then
        Some Rattle.sp_base.specs.declared.fault.Fault.TheVariants.F15 else None

    abbrev made : Option Fault → machine.Stop → System Plain
    made f st = record (sys.apply_unless_fault plain (run_is G) f i (turn_of st) u)
        { births = Rattle.sp_journal.specs.Births.births_after_event u.births i (sys.event_or f (turn_of st)) }

    none_fault : (w1 : Way) → Rattle.sp_code.specs.System.first_fault or_f15
        (sys.clash_by w1 kd (sys.pending_stop u (u.pending j))) ≡ None
    none_fault w1 = ap (λ a. sys.first_fault
        (if a then Some Rattle.sp_base.specs.declared.fault.Fault.TheVariants.F15 else None)
        (sys.clash_by w1 kd (sys.pending_stop u (u.pending j)))) enough
        ∙ ap (λ a. sys.clash_by w1 kd (sys.pending_stop u a)) nothing_pends ∙ by w1
      where
        by : (w1 : Way) → sys.clash_by w1 kd None ≡ None
        by way.Send = refl
        by way.Receive = refl

    sends : (cs : List Rattle.sp_cell.specs.declared.cell.Cell.Cell)
        → system_after_turn plain (run_is G) i (turn_of (machine.Sends j kd cs)) u ≡ u1_of (machine.Sends j kd cs)
    sends cs = after_no_fault G i (turn_of (machine.Sends j kd cs)) u no_fault
        ∙ ap (λ f. made f (machine.Sends j kd cs)) (none_fault way.Send)
        ∙ ap (λ a. record (sys.with_entry_counted plain (run_is G)
        (sys.apply_send plain (run_is G) i (machine.Sends j kd cs) j cs there a u)) { births = u.births }) nothing_pends

    takes : (a : Rattle.sp_cell.specs.declared.spot.Address.Address)
        → system_after_turn plain (run_is G) i (turn_of (machine.Receives j kd a)) u ≡ u1_of (machine.Receives j kd a)
    takes a = after_no_fault G i (turn_of (machine.Receives j kd a)) u no_fault
        ∙ ap (λ f. made f (machine.Receives j kd a)) (none_fault way.Receive)
        ∙ ap (λ b. record (sys.with_entry_counted plain (run_is G)
        (sys.apply_receive plain (run_is G) i (machine.Receives j kd a) j a there b u)) { births = u.births })
        nothing_pends

    event_sends : (cs : List Rattle.sp_cell.specs.declared.cell.Cell.Cell)
        → event_of G.g.limits u (turn_of (machine.Sends j kd cs)) ≡ event.Send j
    event_sends cs = ap (λ b. if b then event.Laid else
        sys.event_or (sys.fault_of G.g.limits u (turn_of (machine.Sends j kd cs))) (turn_of (machine.Sends j kd cs)))
        no_fault ∙ ap (λ f. sys.event_or f (turn_of (machine.Sends j kd cs))) (none_fault way.Send)

    event_takes : (a : Rattle.sp_cell.specs.declared.spot.Address.Address)
        → event_of G.g.limits u (turn_of (machine.Receives j kd a)) ≡ event.Receive j
    event_takes a = ap (λ b. if b then event.Laid else
        sys.event_or (sys.fault_of G.g.limits u (turn_of (machine.Receives j kd a)))
        (turn_of (machine.Receives j kd a))) no_fault
        ∙ ap (λ f. sys.event_or f (turn_of (machine.Receives j kd a))) (none_fault way.Receive)

    name_of : channel u.births j ≡ ch
    name_of = l.began.openings j is_open ∙ named.2

    -- the entry, once it is known what the machine's turn makes
    entry_by : system_after_turn plain (run_is G) i (turn_of t.stop) u ≡ u1
        → happening u.births (event_of G.g.limits u (turn_of t.stop)) ≡ what
        → IsOpen u.births (event_of G.g.limits u (turn_of t.stop)) → Entry_of G c s u i d
    entry_by is told speaks = record {
      turn = turn_of t.stop;
      is_turn = tn_is;
      way = way_of_step at_stop x.steps x.state (x.turn what said) what t1
          (makes_step at_stop x.state t1 x.left what no_fault x.runs said goes_next) _
          (sym told);
      speaks = speaks;
      lives = lv;
      linked = λ began. now_by G lv c1 t1 (system_after_turn plain (run_is G) i (turn_of t.stop) u)
          (subst (λ a. Linked G lv c1 t1 a) (sym is) linked);
    }

  -- of both ways
  waiting_by : (g1 : Payload LocationContent Address) → cg ≡ g1
      → Ca G (lv v) (λ a b. lv ((a, b) ∷ v)) v z.fresh x.left.who name_is (c1.since v) t.frames ch kd g1 t.stop
      → Entry_of G c s u i d
  waiting_by (Message (Tree a)) e (j, _, stop_is, named, _) = entry_by j named
      (ap (λ st. system_after_turn plain (run_is G) i (Stopped st (At t.pc t.stack t.memory)) u) stop_is
      ∙ sends j named _
      ∙ ap (λ st. u1_of j named st) (sym stop_is))
      (ap (λ st. happening u.births (event_of G.g.limits u (Stopped st (At t.pc t.stack t.memory)))) stop_is
      ∙ ap (λ f. happening u.births f) (event_sends j named _) ∙ ap (λ a. Is_offered way.Send a) (name_of j named)
      ∙ ap (λ a. Is_offered (way_of a) ch) (sym e))
      (subst (λ st. IsOpen u.births (event_of G.g.limits u (Stopped st (At t.pc t.stack t.memory)))) (sym stop_is)
      (subst (λ f. IsOpen u.births f) (sym (event_sends j named _)) (is_open j named)))
  waiting_by (Message (Position n)) e h = absurd h
  waiting_by (Message (Written bs)) e h = absurd h
  waiting_by (Takes a) e (j, target, stop_is, named, _, _, _) = entry_by j named
      (ap (λ st. system_after_turn plain (run_is G) i (Stopped st (At t.pc t.stack t.memory)) u) stop_is
      ∙ takes j named target
      ∙ ap (λ st. u1_of j named st) (sym stop_is))
      (ap (λ st. happening u.births (event_of G.g.limits u (Stopped st (At t.pc t.stack t.memory)))) stop_is
      ∙ ap (λ f. happening u.births f) (event_takes j named target)
      ∙ ap (λ a. Is_offered way.Receive a) (name_of j named) ∙ ap (λ a. Is_offered (way_of a) ch) (sym e))
      (subst (λ st. IsOpen u.births (event_of G.g.limits u (Stopped st (At t.pc t.stack t.memory)))) (sym stop_is)
      (subst (λ f. IsOpen u.births f) (sym (event_takes j named target)) (is_open j named)))

  pub waiting_entry : Entry_of G c s u i d
  waiting_entry = waiting_by cg refl payload
