-- The entry `Open` on both sides: the new channel has the next number and its name, and stands in the target
-- (`opening_entry`); or the entries or the channels are at their limit: F15, F14.
use Rattle.std.proofs.Common.{◌≡◌, ◌⊎◌, inl, ⊎_elim, ℕ, ◌+◌, ◌<◌, ◌==◌, List, ◌∷◌, length, Option, Some, None, Bool}
use Rattle.std.proofs.Common.{true, false, cond, if◌then◌else◌, eq-eqb, refl, sym, ap, ◌∙◌, subst, arith}
use Rattle.std.specs.Prelude.{◌≢◌, nat_lt}
use Rattle.std.proofs.lemmas.Bool.{ne_eqb}
use Rattle.sp_base.specs.declared.fault.Fault.{Fault}
use Rattle.sp_base.specs.declared.fault.Fault.TheVariants as fault
use Rattle.sp_journal.specs.Births.{Births, channel, happening, births_after_event}
use Rattle.sp_journal.specs.declared.entry.Event.TheVariants as event
use Rattle.sp_journal.specs.declared.entry.Opening.{Opening}
use Rattle.sp_journal.specs.Maps.{at_key}
use Rattle.sp_cell.specs.declared.cell.Cell.TheVariants as cell
use Rattle.sp_cell.specs.Map.{Plain}
use Rattle.sp_meaning.specs.Maps.{at_key as put_at}
use Rattle.sp_meaning.specs.Model.{Name, same_name, Channel, Payload, Message, Takes, Condition, Absent, Works, Waits}
use Rattle.sp_meaning.specs.Model.{Joins, Ended, Becomes, AddsTotals, Opens, with_change, add, Totals}
use Rattle.sp_meaning.specs.EffectTree.{tree_writes}
use Rattle.sp_meaning.specs.Steps.{ActOf, has_ended, own_part_in, IsAlive as IsLive, WaitsOn, Advances, Faulty}
use Rattle.sp_meaning.specs.Steps.{step_outcome}
use Rattle.sp_meaning.specs.Steps.{limit_fault, fault_or, act_outcome, write_changes, result_of}
use Rattle.sp_meaning.specs.Entries.{Opened as Is_opened}
use Rattle.sp_meaning.specs.LocalWork.{Loc, LocationContent, Address, LocalState, Identity, Process, WorkOutcome}
use Rattle.sp_meaning.specs.LocalWork.{Computed, Item, Tree, Position, Written}
use Rattle.sp_meaning.specs.LocalWork.{same_loc}
use Rattle.sp_meaning.specs.Values.{Chan}
use Rattle.sp_meaning.specs.Actions.{Action, Opened}
use Rattle.sp_meaning.specs.SuperPascal.{superpascal, act_tree, with_todo}
use Rattle.sp_meaning.specs.Run.{Store}
use Rattle.sp_meaning.specs.Runs.{StateOf, total_limits, next_state, happening_at, happening_of}
use Rattle.sp_meaning.specs.Along.{JournalState, ticks_in, ticks_of, with_ticks}
use Rattle.sp_meaning.specs.Turn as source
use Rattle.sp_meaning.proofs.Keys.{name_test, number_or}
use Rattle.sp_meaning.proofs.Maps.{at_same, at_other, itself, same_or_not}
use Rattle.sp_meaning.proofs.LocalSteps.{stored, answered}
use Rattle.sp_meaning.proofs.RightsInvariant.{Inv, ConditionInRights}
use Rattle.sp_meaning.proofs.StepLaws.{StateKeeps, step_well, raised, lowered}
use Rattle.sp_meaning.proofs.Rights.{OwnLocation}
use Rattle.sp_meaning.proofs.Sound.{step_sound}
use Rattle.sp_code.specs.Machine.{Config, At}
use Rattle.sp_code.specs.Machine as machine
use Rattle.sp_code.specs.Turns.{Turn, Stopped, IsTurn}
use Rattle.sp_code.specs.Memory.{Memory, put_cell}
use Rattle.sp_code.specs.PlainStore.{plain}
use Rattle.sp_code.specs.Scopes.{sort}
use Rattle.sp_code.specs.System.{System, system_after_turn, event_of, event_or, fault_of, apply_unless_fault, on_store}
use Rattle.sp_code.specs.System as sys
use Rattle.sp_codegen.specs.Relation.{OneCell, StackHolds}
use Rattle.sp_codegen.proofs.Stores.{store_law}
use Rattle.sp_link.proofs.AfterEntry.{stand_again, follows_again}
use Rattle.sp_link.proofs.AtStop.{known_at}
use Rattle.sp_link.proofs.Halts.{failed_entry, opened_halt}
use Rattle.sp_link.proofs.Journal.{IsOpen, Now}
use Rattle.sp_link.proofs.KernelSteps.{kernel_next, kernel_says}
use Rattle.sp_link.proofs.MoreChannels.{one_more, stands_more, does_more}
use Rattle.sp_link.proofs.OneChanges.{q, pr, alone, here, present, not_ended, keeps_to, inv_local, since_other}
use Rattle.sp_link.proofs.OthersStay.{does_stay}
use Rattle.sp_link.proofs.Pauses.{Entry_of, Meant, Kept_to, turn_is, after_no_fault, way_of_step, makes_step}
use Rattle.sp_link.proofs.Relation.{RunContext, BirthRights, RightsOfAll, W_of, R_of, Called, Named, ProcessMatches, Ca}
use Rattle.sp_link.proofs.Relation.{Rel, St, Performs_all}
use Rattle.sp_link.proofs.Relation.{IsPending, Linked, Began, at_open, run_is, ops}
use Rattle.sp_link.proofs.Relation.{AtStop}
use Rattle.sp_link.proofs.Pauses.{MatchesNow, OpensAt}
use Rattle.sp_link.proofs.OneChanges.{opens_are, unlaid}

module _ (G : RunContext) (lv : RightsOfAll G) (c : JournalState) (s : StateOf G.g) (u : System Plain)
    (l : Linked G lv c s u) where
  -- a pending offer is on a channel that is open
  pending_open : (ch : Channel) (zn : Name) → s.pending ch ≡ Some zn → (j : ℕ) × Named G ch j
  pending_open ch zn e = by (u.condition k) (subst (λ y. Performs_all G lv y c s (u.births.opens k) (u.condition k))
      name_is (l.does k lt))
    where
      waits : WaitsOn ch (s.condition zn)
      waits = l.known.sound.waits ch zn e

      n : (k : ℕ) × (k < u.births.processes) × (G.births.name k ≡ zn)
      n = l.numbered zn (λ a. subst (λ b. WaitsOn ch b) a waits)

      k : ℕ
      k = n.0

      lt : k < u.births.processes
      lt = n.1

      name_is : G.births.name k ≡ zn
      name_is = n.2

      idle : (x : Condition Process LocationContent Address) (own : Process) → WaitsOn ch x
          → own_part_in s.condition zn x ≡ Some own → ⊥
      idle Absent own h f = h
      idle (Works pr) own h f = h
      idle (Waits w) own h f = absurd (cc f)
      idle (Joins a b pr) own h f = h
      idle Ended own h f = h

      payload : (lf : BirthRights) (more : ℕ → ℕ → BirthRights) (f : Rattle.sp_link.proofs.Relation.Fresh G lf more zn)
          (w : Identity)
          (nm : w.name ≡ zn) (since : ℕ) (js : List Rattle.sp_codegen.specs.FramePairs.FramePair) (c1 : Channel)
          (kd : ℕ)
          (g : Payload LocationContent Address) (z : machine.Stop) → Ca G lf more zn f w nm since js c1 kd g z → (j : ℕ)
          × Named G c1 j
      payload lf more f w nm since js c1 kd (Message (Tree a)) z (j, _, _, named, _) = (j, named)
      payload lf more f w nm since js c1 kd (Message (Position m)) z h = absurd h
      payload lf more f w nm since js c1 kd (Message (Written bs)) z h = absurd h
      payload lf more f w nm since js c1 kd (Takes a) z (j, _, _, named, _, _, _) = (j, named)

      by : (x : sys.Condition Plain) → Performs_all G lv zn c s (u.births.opens k) x → (j : ℕ) × Named G ch j
      by sys.Absent h = absurd h
      by (sys.Working a) h = absurd (idle (s.condition zn) h.0 waits h.1)
      by (sys.Waits z a) (o, is, t, carries, _, _, _) =
          let on : o.channel ≡ ch = subst (λ b. WaitsOn ch b) is waits in
          let y = payload (lv zn) (λ a b. lv ((a, b) ∷ zn)) t.fresh o.next.who t.named (c.since zn) t.js
          o.channel o.kind o.payload z carries in
          (y.0, subst (λ b. Named G b y.0) on y.1)
      by (sys.Joins left a) (_, _, _, joins, _, _, _) = absurd (subst (λ b. WaitsOn ch b) joins waits)
      by (sys.Laid a) (_, _, (own, runs), _) = absurd (idle (s.condition zn) own waits runs)
      by sys.Gone h = absurd (subst (λ b. WaitsOn ch b) h.0 waits)
      by (sys.Over a) h = absurd (subst (λ b. WaitsOn ch b) h.0 waits)

module _ (at_stop : AtStop) (z : MatchesNow at_stop)
    (todo : List Item) (o : LocalState) (m : Store)
    (x : Meant at_stop z (Computed (source.Stops (Opened todo)) o, m))
    (t : OpensAt at_stop z todo o m)
    (y : Kept_to at_stop z (Computed (source.Stops (Opened todo)) o, m))
    (no_fault : at_stop.system.faulted ≡ false) where
  open at_stop use {
    run as G,
    lives as lv,
    course as c,
    state as s,
    system as u,
    linked as l,
    number as i,
    configuration as d,
  }

  abbrev v : Name
  v = q at_stop

  abbrev p1 : Process
  p1 = pr at_stop

  abbrev r : WorkOutcome Action × Store
  r = (Computed (Opened todo) o, m)

  abbrev ws : List (Loc × LocationContent)
  ws = tree_writes same_loc (act_tree G.g x.left) x.state.store

  abbrev goes_on : Process
  goes_on = with_todo todo (record (x.left.who) { opens = x.left.who.opens + 1 }) o

  abbrev a_channel : Totals
  a_channel = record { processes = 0; channels = 1; entries = 1 }

  abbrev tn : Turn (Memory Plain)
  tn = Stopped (machine.Opens t.target) (At t.pc t.stack t.memory)

  tn_is : IsTurn (ops G) G.code d (Stopped (machine.Opens t.target) (At t.pc t.stack t.memory))
  tn_is = turn_is at_stop z (Stopped (machine.Opens t.target) (At t.pc t.stack t.memory)) (t.last, t.comes, t.stops)

  passes : (e1 e2 : Bool) → nat_lt G.g.limits.entries (u.entries + 1) ≡ e1
      → nat_lt G.g.limits.channels (u.births.channels + 1) ≡ e2
      → limit_fault (total_limits G.g) x.state.totals (Some a_channel)
      ≡ (if e1 then Some fault.F15 else (if e2 then Some fault.F14 else None))
  passes e1 e2 h1 h2 =
      ap (λ (a : Totals). limit_fault (total_limits G.g) a (Some a_channel)) x.elsewhere.totals
      ∙ ap (λ n. if nat_lt G.g.limits.entries (n + 1) then Some fault.F15 else
      (if nat_lt G.g.limits.channels (s.totals.channels + 1) then Some fault.F14 else None)) l.entries
      ∙ ap (λ n. if nat_lt G.g.limits.entries (u.entries + 1) then Some fault.F15 else
      (if nat_lt G.g.limits.channels (n + 1) then Some fault.F14 else None)) l.channels
      ∙ ap (λ b. if b then Some fault.F15 else
      (if nat_lt G.g.limits.channels (u.births.channels + 1) then Some fault.F14 else None)) h1
      ∙ ap (λ b. if e1 then Some fault.F15 else (if b then Some fault.F14 else None)) h2

  found : (e1 e2 : Bool) → nat_lt G.g.limits.entries (u.entries + 1) ≡ e1
      → nat_lt G.g.limits.channels (u.births.channels + 1) ≡ e2
      → fault_of G.g.limits u tn ≡ sys.first_fault
      (if e1 then Some fault.F15 else (if e2 then Some fault.F14 else None)) None
  found e1 e2 h1 h2 =
      ap (λ b. sys.first_fault (if b then Some fault.F15 else
      (if nat_lt G.g.limits.channels (u.births.channels + 1) then Some fault.F14 else None)) None) h1
      ∙ ap (λ b. sys.first_fault (if e1 then Some fault.F15 else (if b then Some fault.F14 else None)) None) h2

  comes_to : (f : Option Fault) → limit_fault (total_limits G.g) x.state.totals (Some a_channel) ≡ f
      → step_outcome {L = superpascal G.g} (total_limits G.g) x.state v (Opens goes_on ws)
      ≡ fault_or f (act_outcome {L = superpascal G.g} x.state v (Opens goes_on ws))
  comes_to f e = ap (λ a. fault_or a (act_outcome {L = superpascal G.g} x.state v (Opens goes_on ws))) e

  fails : (f : Fault) → step_outcome {L = superpascal G.g} (total_limits G.g) x.state v (Opens goes_on ws) ≡ Faulty f
      → fault_of G.g.limits u tn ≡ Some f → Entry_of G c s u i d
  fails f e h = failed_entry at_stop (opened_halt at_stop z todo o m x t) refl f
      (kernel_says G.g v x.state x.left x.runs r x.does
      ∙ ap (λ b. happening_of {L = superpascal G.g} (Opens goes_on ws) b) e)
      (kernel_next G.g v x.state x.left x.runs r x.does
      ∙ ap (λ b. Some (result_of {L = superpascal G.g} x.state v b)) e) h
      no_fault

  -- ---- it opens

  module _ (room1 : nat_lt G.g.limits.entries (u.entries + 1) ≡ false)
      (room2 : nat_lt G.g.limits.channels (u.births.channels + 1) ≡ false) where
    does_it : step_outcome {L = superpascal G.g} (total_limits G.g) x.state v (Opens goes_on ws)
        ≡ Advances (Becomes v (Works goes_on) ∷ AddsTotals a_channel ∷ write_changes {L = superpascal G.g} ws)
    does_it = comes_to None (passes false false room1 room2)

    abbrev t1 : StateOf G.g
    t1 = record (x.state) {
      condition = put_at same_name v (Works goes_on) x.state.condition;
      totals = add x.state.totals a_channel;
      store = m;
    }

    said_now : happening_at G.g x.state v x.left ≡ Some Is_opened
    said_now = kernel_says G.g v x.state x.left x.runs r x.does
        ∙ ap (λ b. happening_of {L = superpascal G.g} (Opens goes_on ws) b) does_it

    goes_next : next_state G.g x.state v ≡ Some t1
    goes_next = kernel_next G.g v x.state x.left x.runs r x.does
        ∙ ap (λ b. Some (result_of {L = superpascal G.g} x.state v b)) does_it
        ∙ ap (λ b. Some b) (stored (superpascal G.g) (act_tree G.g x.left)
        (with_change {L = superpascal G.g} (AddsTotals a_channel)
        (with_change {L = superpascal G.g} (Becomes v (Works goes_on)) x.state))
        ∙ ap (λ (b : (List (Loc × LocationContent) → ActOf (superpascal G.g)) × Store). record (x.state) {
          condition = put_at same_name v (Works goes_on) x.state.condition;
          totals = add x.state.totals a_channel;
          store = b.1;
        }) (answered G.g x.state x.left (Computed (Opened todo) o) m x.does))

    cond_v : t1.condition v ≡ Works goes_on
    cond_v = at_same name_test x.state.condition v (Works goes_on)

    cond_r : (b : Name) → b ≢ v → t1.condition b ≡ s.condition b
    cond_r b e = at_other name_test x.state.condition v b (Works goes_on) (λ f. e (sym f)) ∙ x.elsewhere.condition b e

    known_then : StateKeeps G.g x.state
    known_then = known_at at_stop z r x Is_opened said_now

    known_now : StateKeeps G.g t1
    known_now = record {
      sound = step_sound (total_limits G.g) x.state v t1 known_then.sound goes_next;
      well = lowered G.g (λ b. ticks_in (x.state.condition b)) t1
          (step_well G.g x.state known_then.sound v (raised G.g x.state known_then.well) t1 goes_next);
    }

    rights_now : Inv G.g.program (W_of G lv) (R_of G lv) t1.condition t1.forks
    rights_now = inv_local G (W_of G lv) (R_of G lv) s.condition t1.condition s.forks t1.forks v l.rights
        x.elsewhere.forks (present at_stop) cond_r
        (subst (λ b. ConditionInRights G.g.program (W_of G lv) (R_of G lv) s.forks v b) (sym cond_v)
        (record {
          named = x.good.named;
          forked = ap (λ (a : Identity). a.forks) x.who_is
              ∙ (keeps_to at_stop).forked;
          last = (keeps_to at_stop).last;
          fit = y.final;
        }))

    ended_same : (b : Name) → has_ended (t1.condition b) ≡ has_ended (s.condition b)
    ended_same b = ⊎_elim (λ (e : b ≡ v). ap (λ k. has_ended (t1.condition k)) e ∙ ap (λ k. has_ended k) cond_v
        ∙ sym (not_ended at_stop) ∙ ap (λ k. has_ended (s.condition k)) (sym e))
        (λ (e : b ≢ v). ap (λ k. has_ended k) (cond_r b e)) (same_or_not name_test b v)

    present_same : (b : Name) → s.condition b ≢ Absent → t1.condition b ≢ Absent
    present_same b h e = ⊎_elim (λ (f : b ≡ v). subst (λ k. IsLive k)
        (sym cond_v ∙ subst (λ k. t1.condition k ≡ Absent) f e) tt) (λ (f : b ≢ v). h (sym (cond_r b f) ∙ e))
        (same_or_not name_test b v)

    abbrev c1 : JournalState
    c1 = with_ticks v (ticks_of G.g t1 v) c

    since_here : c1.since v ≡ t.memory.ticks
    since_here = ap (λ b. cond b (ticks_of G.g t1 v) (c.since v)) (itself name_test v) ∙ ap ticks_in cond_v
        ∙ t.stand.ticks

    few : (k : ℕ) → k < u.births.processes → k < G.births.processes
    few k lt = let b = l.began.processes in omega (arith, lt, b)

    does_other : (k : ℕ) → k < u.births.processes → i ≢ k
        → Performs_all (one_more G) lv (G.births.name k) c1 t1 (u.births.opens k) (u.condition k)
    does_other k lt e =
        let apart : G.births.name k ≢ v = λ h. e
        (G.one_name i k (few i (here at_stop)) (few k lt) (sym h)) in
        does_more G (lv (G.births.name k)) (λ a b. lv ((a, b) ∷ G.births.name k)) (G.births.name k) c1 t1
        (u.births.opens k) (u.condition k)
        (does_stay G lv s t1 l.known.sound l.rights.fair v (alone at_stop) y.stays (G.births.name k) apart
        (cond_r (G.births.name k) apart) (λ a b. ended_same ((a, b) ∷ G.births.name k))
        (λ a b. present_same ((a, b) ∷ G.births.name k)) c c1
        (since_other c v (ticks_of G.g t1 v) (G.births.name k) apart) refl (λ h. h)
        (u.births.opens k) (u.condition k) (l.does k lt))

    -- ---- the machine

    abbrev n1 : Memory Plain
    n1 = record (t.memory) { since = t.memory.ticks }

    abbrev there : Config (Memory Plain)
    there = on_store (put_cell plain t.target (cell.Channel u.births.channels)) (At t.pc t.stack n1)

    abbrev b1 : Births
    b1 = births_after_event u.births i event.Open

    abbrev u1 : System Plain
    u1 = record u { condition = at_key ◌==◌ i (sys.Working there) u.condition; entries = u.entries + 1; births = b1 }

    after_is : system_after_turn plain (run_is G) i tn u ≡ u1
    after_is = after_no_fault G i tn u no_fault ∙ ap
        (λ f. record (apply_unless_fault plain (run_is G) f i tn u) {
          births =
              births_after_event u.births i (event_or f tn);
        })
        (found false false room1 room2)

    event_is : event_of G.g.limits u tn ≡ event.Open
    event_is = ap (λ b. if b then event.Laid else event_or (fault_of G.g.limits u tn) tn) no_fault
        ∙ ap (λ f. event_or f tn) (found false false room1 room2)

    module _ (began : Began G b1) where
      abbrev k : ℕ
      k = u.births.channels

      abbrev nm : Channel
      nm = record { owner = p1.who.name; nth = p1.who.opens }

      below : k < G.births.channels
      below = let a = began.channels in omega (arith, a)

      -- the name of the new channel
      channel_is : channel G.births k ≡ nm
      channel_is = sym (began.openings k (omega arith))
          ∙ ap (λ (a : Opening). record { owner = u.births.name a.owner; nth = a.nth })
          (ap (λ b. cond b (record { owner = i; nth = u.births.opens i }) (u.births.opening k)) (eq-eqb k k refl))
          ∙ ap (λ a. record { owner = a; nth = u.births.opens i })
          (l.began.names i (here at_stop) ∙ sym z.named)
          ∙ ap (λ a. record { owner = p1.who.name; nth = a }) (sym (opens_are at_stop))

      named : Named (one_more G) nm k
      named = ((let a = l.open_is in omega (arith, a)), below, channel_is)

      -- nothing is pending on it
      none_there : s.pending (channel G.births k) ≡ None
      none_there = go (s.pending (channel G.births k)) refl
        where
          go : (a : Option Name) → s.pending (channel G.births k) ≡ a → a ≡ None
          go None e = refl
          go (Some zn) e =
              let (number, (lt, below_all, same_channel)) = pending_open G lv c s u l (channel G.births k) zn e in
              let same : number ≡ k = G.one_channel number k below_all below same_channel in
              let op = l.open_is in
              absurd (omega (arith, same, lt, op))

      -- before the channel stands in its target
      abbrev before : ProcessMatches (one_more G) (lv v) (λ a b. lv ((a, b) ∷ v)) v (c1.since v) goes_on t.store
          (At t.pc t.stack n1)
      before = stands_more G (lv v) (λ a b. lv ((a, b) ∷ v)) v (c1.since v) goes_on t.store (At t.pc t.stack n1)
          (record {
            fresh = z.fresh;
            named = x.good.named;
            js = t.frames;
            pc = t.pc;
            stack = t.stack;
            memory = n1;
            configuration_is = refl;
            stand = stand_again G (lv v) (λ a b. lv ((a, b) ∷ v)) v {w = p1.who} {w1 = goes_on.who} {since = c.since v}
                {since1 = c1.since v} (ap (λ (a : Identity). a.name) x.who_is) since_here t.stand;
            follows = follows_again G (lv v) (λ a b. lv ((a, b) ∷ v)) v z.fresh z.fresh p1.who goes_on.who z.named
                x.good.named (c.since v) (c1.since v) t.pc t.stack t.frames todo t.follows;
          })

      stood : StackHolds (Rel (one_more G) (lv v) (λ a b. lv ((a, b) ∷ v)) v goes_on.who (c1.since v)) G.g.program
          (sort G.g.program t.variable.kind) t.variable.kind (Chan nm) (machine.Chan k)
      stood = subst (λ b. StackHolds (Rel (one_more G) (lv v) (λ a b. lv ((a, b) ∷ v)) v goes_on.who (c1.since v))
          G.g.program b t.variable.kind (Chan nm) (machine.Chan k)) (sym t.sort_is) (nm, k, refl, refl, named)

      stand_now : St (one_more G) (lv v) (λ a b. lv ((a, b) ∷ v)) v goes_on.who (c1.since v) t.frames o m
          (record n1 { store = put_cell plain t.target (cell.Channel k) n1.store })
      stand_now = subst (λ b. St (one_more G) (lv v) (λ a b. lv ((a, b) ∷ v)) v goes_on.who (c1.since v) t.frames o b
          (record n1 { store = put_cell plain t.target (cell.Channel k) n1.store })) (sym t.store_is)
          (store_law G.g G.code goes_on.who (Named (one_more G)) (Called G) (λ a. OwnLocation v a ⊎ (lv v).W a)
          (λ a. OwnLocation v a ⊎ (lv v).R a) (lv v).J (lv v).low (length (lv v).below) (lv v).born (c1.since v) G.pause
          (lv v).moved G.formed before.stand t.variable t.target t.points t.readable (subst OneCell (sym t.sort_is) tt)
          (Chan nm)
          (machine.Chan k) stood)

      stands_now : ProcessMatches (one_more G) (lv v) (λ a b. lv ((a, b) ∷ v)) v (c1.since v) goes_on m there
      stands_now = record {
        fresh = before.fresh;
        named = before.named;
        js = t.frames;
        pc = t.pc;
        stack = t.stack;
        memory = record n1 { store = put_cell plain t.target (cell.Channel k) n1.store };
        configuration_is = refl;
        stand = stand_now;
        follows = before.follows;
      }

      opens_here : b1.opens i ≡ u.births.opens i + 1
      opens_here = ap (λ b. cond b (u.births.opens i + 1) (u.births.opens i)) (eq-eqb i i refl)

      its_does : Performs_all (one_more G) lv v c1 t1 (b1.opens i) (sys.Working there)
      its_does = (
        goes_on,
        ap (own_part_in t1.condition v) cond_v,
        inl stands_now,
        ap (λ a. a + 1) (ap (λ (a : Identity). a.opens) x.who_is ∙ opens_are at_stop) ∙ sym opens_here,
        unlaid at_stop,
      )

      linked : Linked (one_more G) lv c1 t1 u1
      linked = record {
        rights = rights_now;
        known = known_now;
        reads_output = l.reads_output;
        began = began;
        open_is = ap (λ a. a + 1) l.open_is;
        forks = λ a lt. ap (λ b. b (G.births.name a)) x.elsewhere.forks ∙ l.forks a lt;
        processes = (let a = ap (λ (b : Totals). b.processes) x.elsewhere.totals in let b = l.processes in
            omega (arith, a, b));
        channels = (let a = ap (λ (b : Totals). b.channels) x.elsewhere.totals in let b = l.channels in
            omega (arith, a, b));
        entries = (let a = ap (λ (b : Totals). b.entries) x.elsewhere.totals in let b = l.entries in
            omega (arith, a, b));
        fresh_since = λ a e. ⊎_elim (λ (b : a ≡ v). absurd
            (no_absent (sym cond_v ∙ subst (λ k. t1.condition k ≡ Absent) b e)))
            (λ (b : a ≢ v). since_other c v (ticks_of G.g t1 v) a b ∙ l.fresh_since a (sym (cond_r a b) ∙ e))
            (same_or_not name_test a v);
        pending = λ a lt. ⊎_elim
            (λ (e : k ≡ a). subst (λ b. IsPending G (t1.pending (channel G.births b)) (u.pending b)) e
            (subst (λ b. IsPending G b (u.pending k))
            (sym (ap (λ b. b (channel G.births k)) x.elsewhere.pending ∙ none_there))
            (subst (λ b. IsPending G None b) (sym (l.none_pending k (omega arith))) tt)))
            (λ (e : k ≢ a). subst (λ b. IsPending G (b (channel G.births a)) (u.pending a)) (sym x.elsewhere.pending)
            (l.pending a (omega (arith, lt, e))))
            (number_or k a);
        none_pending = λ a le. l.none_pending a (omega (arith, le));
        faulted = l.faulted;
        no_fault = λ e. x.elsewhere.fault ∙ l.no_fault e;
        unlaid = l.unlaid;
        does = λ a lt. ⊎_elim
            (λ (e : i ≡ a). subst (λ b. Performs_all (one_more G) lv (G.births.name b) c1 t1 (b1.opens b)
            (u1.condition b)) e (subst (λ b. Performs_all (one_more G) lv v c1 t1 (b1.opens i) b)
            (sym (ap (λ b. cond b (sys.Working there) (u.condition i)) (eq-eqb i i refl))) its_does))
            (λ (e : i ≢ a). subst (λ b. Performs_all (one_more G) lv (G.births.name a) c1 t1 b (u1.condition a))
            (sym (ap (λ b. cond b (u.births.opens i + 1) (u.births.opens a)) (ne_eqb i a e)))
            (subst (λ b. Performs_all (one_more G) lv (G.births.name a) c1 t1 (u.births.opens a) b)
            (sym (ap (λ b. cond b (sys.Working there) (u.condition a)) (ne_eqb i a e))) (does_other a lt e)))
            (number_or i a);
        unborn = λ a le. ap (λ b. cond b (sys.Working there) (u.condition a))
            (ne_eqb i a (λ e. let b = here at_stop in omega (arith, b, le, e))) ∙ l.unborn a le;
        unmade = λ a le. (
          (l.unmade a le).0,
          ap (λ b. cond b (u.births.opens i + 1) (u.births.opens a))
              (ne_eqb i a (λ e. let b = here at_stop in omega (arith, b, le, e))) ∙ (l.unmade a le).1,
        );
        numbered = λ a h. ⊎_elim (λ (e : a ≡ v). (i, here at_stop, sym e))
            (λ (e : a ≢ v). l.numbered a (λ f. h (cond_r a e ∙ f))) (same_or_not name_test a v);
      }
        where
          no_absent : ◌≡◌ {A = Condition Process LocationContent Address} (Works goes_on) Absent → ⊥
          no_absent e = cc e

      now : Now G lv c1 t1 u1
      now = subst (λ n. Linked (at_open G (n + 1)) lv c1 t1 u1) l.open_is linked

    opens_entry : Entry_of G c s u i d
    opens_entry = record {
      turn = tn;
      is_turn = tn_is;
      way = way_of_step at_stop x.steps x.state (x.turn Is_opened said_now) Is_opened t1
          (makes_step at_stop x.state t1 x.left Is_opened no_fault x.runs said_now goes_next) _
          (sym told);
      speaks = subst (λ f. IsOpen u.births f) (sym event_is) tt;
      lives = lv;
      linked = λ began. subst (λ a. Now G lv c1 t1 a) (sym after_is)
          (now (subst (λ (a : System Plain). Began G a.births) after_is began));
    }
      where
        told : happening u.births (event_of G.g.limits u tn) ≡ Is_opened
        told = ap (λ f. happening u.births f) event_is

  pub opening_entry : Entry_of G c s u i d
  opening_entry = by (nat_lt G.g.limits.entries (u.entries + 1)) (nat_lt G.g.limits.channels (u.births.channels + 1))
      refl refl
    where
      by : (e1 e2 : Bool) → nat_lt G.g.limits.entries (u.entries + 1) ≡ e1
          → nat_lt G.g.limits.channels (u.births.channels + 1) ≡ e2 → Entry_of G c s u i d
      by true e2 h1 h2 = fails fault.F15 (comes_to (Some fault.F15) (passes true e2 h1 h2)) (found true e2 h1 h2)
      by false true h1 h2 = fails fault.F14 (comes_to (Some fault.F14) (passes false true h1 h2))
          (found false true h1 h2)
      by false false h1 h2 = opens_entry h1 h2
