-- The entry `Fork` on both sides, whichever statement forks: the children are born with their lives, and the parent
-- joins them (`fork_entry`); or the entries or the processes are at their limit: F15, F13. What a parallel and what a
-- forall statement give for this is in `Parallels` and `Foralls`.
use Rattle.std.proofs.Common.{◌≡◌, ◌⊎◌, inl, inr, ⊎_elim, ℕ, ◌+◌, ◌<◌, ◌≤◌, ◌==◌, ℤ, List, [], ◌∷◌, length, Option}
use Rattle.std.proofs.Common.{Some, None, Bool, true, false, ◌&&◌, cond, if◌then◌else◌, eq-eqb, refl, sym, ap, ◌∙◌}
use Rattle.std.proofs.Common.{subst, arith, zero-add}
use Rattle.std.specs.Prelude.{◌≢◌, ◌-◌, nat_lt, nat_le, IsSome, slice_get}
use Rattle.std.specs.FinMap as fin
use Rattle.std.proofs.lemmas.Bool.{cases_lt, le-leb, lt-ltb, ltb-false, ltb-true, ne_eqb}
use Rattle.sp_base.specs.declared.fault.Fault.{Fault}
use Rattle.sp_base.specs.declared.fault.Fault.TheVariants as fault
use Rattle.sp_base.proofs.Facts.{and_with_false, same_head, same_tail, item_there}
use Rattle.sp_tree.specs.Plain.{Stmt}
use Rattle.sp_journal.specs.Births.{Births, channel, happening, births_after_event, is_next}
use Rattle.sp_journal.specs.declared.entry.Event.TheVariants as event
use Rattle.sp_cell.specs.declared.spot.Spot.{Spot}
use Rattle.sp_cell.specs.declared.spot.Handing.{Handing}
use Rattle.sp_cell.specs.Fork.{moved_of, shared_of}
use Rattle.sp_cell.specs.Map.{Plain, output_spot}
use Rattle.sp_cell.specs.Spots.{In, NotIn}
use Rattle.sp_meaning.specs.Maps.{at_key as put_at}
use Rattle.sp_meaning.specs.Model.{Name, same_name, Condition, Absent, Works, Joins, Ended, Becomes}
use Rattle.sp_meaning.specs.Model.{Forked as Counts_fork, AddsTotals, Forks, with_change, add, Totals}
use Rattle.sp_meaning.specs.Steps.{has_ended, own_part_in, IsAlive as IsLive, Faulty, step_outcome, limit_fault}
use Rattle.sp_meaning.specs.Steps.{fault_or, act_outcome}
use Rattle.sp_meaning.specs.Steps.{result_of}
use Rattle.sp_meaning.specs.Entries.{Happening}
use Rattle.sp_journal.specs.Names as happenings
use Rattle.sp_meaning.specs.LocalWork.{Loc, Output, LocationContent, Address, LocalState, Identity, Process}
use Rattle.sp_meaning.specs.LocalWork.{WorkOutcome, Computed, Item}
use Rattle.sp_meaning.specs.Actions.{Action, Birth, Forked, new_process, new_processes}
use Rattle.sp_meaning.specs.Rights.{Born}
use Rattle.sp_meaning.specs.SuperPascal.{superpascal, with_todo}
use Rattle.sp_meaning.specs.Run.{Store}
use Rattle.sp_meaning.specs.Runs.{StateOf, total_limits, next_state, happening_at, happening_of}
use Rattle.sp_meaning.specs.Along.{JournalState, ticks_in, ticks_of, with_ticks, Either}
use Rattle.sp_meaning.specs.Turn as source
use Rattle.sp_meaning.proofs.Children.{AimedAt, UsedAt, writes_after, reads_after, it_is}
use Rattle.sp_meaning.proofs.Keys.{name_test, number_or}
use Rattle.sp_meaning.proofs.Maps.{at_same, at_other, differs, itself, same_or_not}
use Rattle.sp_meaning.proofs.RightsInvariant.{Inv, ConditionInRights, known_if, forks_keep, after_births}
use Rattle.sp_meaning.proofs.SilentActions.{IsDead}
use Rattle.sp_meaning.proofs.StepLaws.{StateKeeps, step_well, raised, lowered, Conditions}
use Rattle.sp_meaning.proofs.Rights.{OwnOrGiven, OwnLocation}
use Rattle.sp_meaning.proofs.Sound.{step_sound}
use Rattle.sp_meaning.proofs.Status.{working_lives}
use Rattle.sp_code.specs.Machine.{Config, At}
use Rattle.sp_code.specs.Machine as machine
use Rattle.sp_code.specs.Tables.{child_at}
use Rattle.sp_code.specs.Turns.{Turn, Stopped, IsTurn}
use Rattle.sp_code.specs.Memory.{Memory}
use Rattle.sp_code.specs.PlainStore.{plain}
use Rattle.sp_code.specs.System.{System, system_after_turn, event_of, event_or, fault_of, apply_unless_fault, on_store}
use Rattle.sp_code.specs.System.{plan_of, child_or}
use Rattle.sp_code.specs.System.{table_or}
use Rattle.sp_code.specs.System as sys
use Rattle.sp_code.proofs.Orders.{next_not}
use Rattle.sp_codegen.proofs.FramePairs.{sources_length}
use Rattle.sp_codegen.specs.TurnAgrees.{due_after}
use Rattle.sp_link.proofs.AfterEntry.{stand_again, again}
use Rattle.sp_link.proofs.AtStop.{known_at, rights_at, same_but_dead}
use Rattle.sp_link.proofs.ChildrenStand.{parent_joins}
use Rattle.sp_link.proofs.Halts.{failed_entry, forked_halt}
use Rattle.sp_link.proofs.Journal.{IsOpen, now_by}
use Rattle.sp_link.proofs.KernelSteps.{kernel_next, kernel_says, stand_dead}
use Rattle.sp_link.proofs.NewRights.{does_lives, inv_same}
use Rattle.sp_link.proofs.OneChanges.{q, pr, alone, here, present, not_ended, keeps_to, since_other}
use Rattle.sp_link.proofs.OthersStay.{does_stay}
use Rattle.sp_link.proofs.Pauses.{Entry_of, Meant, Kept_to, kids, turn_is, after_no_fault, way_of_step, makes_step}
use Rattle.sp_link.proofs.Relation.{RunContext, BirthRights, RightsOfAll, W_of, R_of, ProcessMatches, Joined, Handed}
use Rattle.sp_link.proofs.Relation.{St, Rel, law, Performs}
use Rattle.sp_link.proofs.Relation.{Performs_all, Linked, Began, run_is, ops}
use Rattle.sp_link.proofs.Newborns.{born_at, born_else, born_is, newborns_at, newborns_length, pick, cons}
use Rattle.sp_link.proofs.Relation.{AtStop}
use Rattle.sp_link.proofs.Pauses.{MatchesNow, ForksAt}
use Rattle.sp_link.proofs.OneChanges.{opens_are, unlaid}

pub is_less : (a b : ℕ) → a < b → nat_lt a b ≡ true
is_less a b h = go (nat_lt a b) refl
  where
    go : (x : Bool) → nat_lt a b ≡ x → x ≡ true
    go true e = refl
    go false e = let k = ltb-false a b e in absurd (omega (arith, k, h))

pub not_less : (a b : ℕ) → b ≤ a → nat_lt a b ≡ false
not_less a b h = go (nat_lt a b) refl
  where
    go : (x : Bool) → nat_lt a b ≡ x → x ≡ false
    go false e = refl
    go true e = let k = ltb-true a b e in absurd (omega (arith, k, h))

next_number : (b : Births) (n j : ℕ) → j < n → is_next b n (b.processes + j) ≡ true
next_number b n j lt = ap (λ x. x && nat_lt (b.processes + j) (b.processes + n))
    (le-leb b.processes (b.processes + j) (omega arith))
    ∙ lt-ltb (b.processes + j) (b.processes + n) (omega (arith, lt))

-- who does anything is there
not_absent : (G : RunContext) (lf : BirthRights) (kids : ℕ → ℕ
    → BirthRights) (q : Name) (c : JournalState) (s : StateOf G.g)
    (opens : ℕ)
    (X : sys.Condition Plain) → Performs G lf kids q c s opens X → s.condition q ≢ Absent
not_absent G lf kids q c s opens sys.Absent h = absurd h
not_absent G lf kids q c s opens (sys.Working a) h =
    λ e. subst (λ b. IsLive b) e (working_lives s.condition q (s.condition q) h.0 h.1)
not_absent G lf kids q c s opens (sys.Waits a b) h = λ e. subst (λ b. IsLive b) (sym h.1 ∙ e) tt
not_absent G lf kids q c s opens (sys.Joins a b) (_, _, _, joins, _, _, _) =
    λ e. subst (λ b. IsLive b) (sym joins ∙ e) tt
not_absent G lf kids q c s opens (sys.Laid a) (_, _, (pr, runs), _) =
    λ e. subst (λ b. IsLive b) e (working_lives s.condition q (s.condition q) pr runs)
not_absent G lf kids q c s opens sys.Gone h = λ e. ended_there (sym h.0 ∙ e)
  where
    ended_there : ◌≡◌ {A = Condition Process LocationContent Address} Ended Absent → ⊥
    ended_there e = cc e
not_absent G lf kids q c s opens (sys.Over a) h = λ e. ended_there (sym h.0 ∙ e)
  where
    ended_there : ◌≡◌ {A = Condition Process LocationContent Address} Ended Absent → ⊥
    ended_there e = cc e

module _ (at_stop : AtStop) (z : MatchesNow at_stop)
    (bs : List Birth) (todo : List Item) (o : LocalState) (m : Store)
    (x : Meant at_stop z (Computed (source.Stops (Forked bs todo)) o, m))
    (t : ForksAt at_stop z bs todo o m)
    (y : Kept_to at_stop z (Computed (source.Stops (Forked bs todo)) o, m)) (no_fault : at_stop.system.faulted ≡ false)
    (tb : ℕ) (val : ℤ) (n : ℕ) (stop_is : t.stop ≡ machine.Forks tb val n) (some : 1 ≤ length bs) where
  open at_stop use {
    run as G,
    lives as lv,
    course as c,
    state as s,
    system as u,
    linked as l,
    number as i,
    configuration as d,
  }

  abbrev pub v : Name
  v = q at_stop

  abbrev pub p1 : Process
  p1 = pr at_stop

  abbrev r : WorkOutcome Action × Store
  r = (Computed (Forked bs todo) o, m)

  -- the number of the fork
  abbrev pub k : ℕ
  k = x.state.forks v

  abbrev os : List Process
  os = new_processes x.left.who o 0 bs

  abbrev pub goes_on : Process
  goes_on = with_todo todo (record (x.left.who) { forks = x.left.who.forks + 1 }) o

  abbrev grows : Totals
  grows = record { processes = length os; channels = 0; entries = 1 }

  abbrev tn : Turn (Memory Plain)
  tn = Stopped t.stop (At t.pc t.stack t.memory)

  tn_is : IsTurn (ops G) G.code d (Stopped t.stop (At t.pc t.stack t.memory))
  tn_is = turn_is at_stop z (Stopped t.stop (At t.pc t.stack t.memory)) (t.last, t.comes, t.stops)

  some_grow : nat_lt 0 (length os) ≡ true
  some_grow = is_less 0 (length os) (let c : length os ≡ length bs = newborns_length x.left.who o 0 bs in
      omega (arith, c, some))

  passes : (e1 e2 : Bool) → nat_lt G.g.limits.entries (u.entries + 1) ≡ e1
      → nat_lt G.g.limits.processes (u.births.processes + length os) ≡ e2
      → limit_fault (total_limits G.g) x.state.totals (Some grows)
      ≡ (if e1 then Some fault.F15 else (if e2 then Some fault.F13 else None))
  passes e1 e2 h1 h2 =
      ap (λ (a : Totals). limit_fault (total_limits G.g) a (Some grows)) x.elsewhere.totals
      ∙ ap (λ a. if nat_lt G.g.limits.entries (s.totals.entries + 1) then Some fault.F15 else
      (if (a && nat_lt G.g.limits.processes (s.totals.processes + length os)) then Some fault.F13 else None))
      some_grow
      ∙ ap (λ a. if nat_lt G.g.limits.entries (a + 1) then Some fault.F15 else
      (if nat_lt G.g.limits.processes (s.totals.processes + length os) then Some fault.F13 else None)) l.entries
      ∙ ap (λ a. if nat_lt G.g.limits.entries (u.entries + 1) then Some fault.F15 else
      (if nat_lt G.g.limits.processes (a + length os) then Some fault.F13 else None)) l.processes
      ∙ ap (λ b. if b then Some fault.F15 else
      (if nat_lt G.g.limits.processes (u.births.processes + length os) then Some fault.F13 else None)) h1
      ∙ ap (λ b. if e1 then Some fault.F15 else (if b then Some fault.F13 else None)) h2

  found : (e1 e2 : Bool) → nat_lt G.g.limits.entries (u.entries + 1) ≡ e1
      → nat_lt G.g.limits.processes (u.births.processes + n) ≡ e2
      → fault_of G.g.limits u tn ≡ sys.first_fault
      (if e1 then Some fault.F15 else (if e2 then Some fault.F13 else None)) None
  found e1 e2 h1 h2 = ap (λ b. fault_of G.g.limits u (Stopped b (At t.pc t.stack t.memory))) stop_is
      ∙ ap (λ b. sys.first_fault (if b then Some fault.F15 else
      (if nat_lt G.g.limits.processes (u.births.processes + n) then Some fault.F13 else None)) None) h1
      ∙ ap (λ b. sys.first_fault (if e1 then Some fault.F15 else (if b then Some fault.F13 else None)) None) h2

  comes_to : (f : Option Fault) → limit_fault (total_limits G.g) x.state.totals (Some grows) ≡ f
      → step_outcome {L = superpascal G.g} (total_limits G.g) x.state v (Forks goes_on os)
      ≡ fault_or f (act_outcome {L = superpascal G.g} x.state v (Forks goes_on os))
  comes_to f e = ap (λ a. fault_or a (act_outcome {L = superpascal G.g} x.state v (Forks goes_on os))) e

  fails : (f : Fault) → step_outcome {L = superpascal G.g} (total_limits G.g) x.state v (Forks goes_on os) ≡ Faulty f
      → fault_of G.g.limits u tn ≡ Some f → Entry_of G c s u i d
  fails f e h = failed_entry at_stop (forked_halt at_stop z bs todo o m x t) refl f
      (kernel_says G.g v x.state x.left x.runs r x.does
      ∙ ap (λ b. happening_of {L = superpascal G.g} (Forks goes_on os) b) e)
      (kernel_next G.g v x.state x.left x.runs r x.does
      ∙ ap (λ b. Some (result_of {L = superpascal G.g} x.state v b)) e) h
      no_fault

  -- the faults, where the two counts pass the limit alike
  pub over_entry : nat_lt G.g.limits.entries (u.entries + 1) ≡ true → Entry_of G c s u i d
  over_entry h = fails fault.F15 (comes_to (Some fault.F15)
      (passes true (nat_lt G.g.limits.processes (u.births.processes + length os)) h refl))
      (found true (nat_lt G.g.limits.processes (u.births.processes + n)) h refl)

  pub many_entry : nat_lt G.g.limits.entries (u.entries + 1) ≡ false
      → nat_lt G.g.limits.processes (u.births.processes + length os) ≡ true
      → nat_lt G.g.limits.processes (u.births.processes + n) ≡ true → Entry_of G c s u i d
  many_entry h a b = fails fault.F13 (comes_to (Some fault.F13) (passes false true h a)) (found false true h b)

  -- the parent's memory at its entry
  abbrev pub n1 : Memory Plain
  n1 = record (t.memory) { since = t.memory.ticks }

  abbrev pub there : Config (Memory Plain)
  there = At t.pc t.stack n1

  abbrev pub hs : List Handing
  hs = plan_of plain (run_is G) there tb val n

  abbrev pub child_of : ℕ → ℕ → Config (Memory Plain)
  child_of number j = sys.child_process plain (run_is G) there val number j
      (child_or (child_at (table_or (slice_get G.code.forks tb)) j))

  -- where it stands, without what calls wrote in frames that are gone
  pub parent_stand : (since1 : ℕ) → since1 ≡ t.memory.ticks
      → St G (lv v) (λ a b. lv ((a, b) ∷ v)) v goes_on.who since1 t.frames o x.state.store n1
  parent_stand since1 e = stand_again G (lv v) (λ a b. lv ((a, b) ∷ v)) v {w = p1.who} {w1 = goes_on.who}
      {since = c.since v} {since1 = since1} (ap (λ (a : Identity). a.name) x.who_is) e
      (stand_dead G (lv v) (λ a b. lv ((a, b) ∷ v)) v t.stand x.state.store
      (λ a. subst (λ b. (x.state.store a ≡ m a) ⊎ IsDead b a)
      (ap (λ b. length b) t.stand.frames.sources_are ∙ sources_length t.frames)
      (same_but_dead at_stop z (Forked bs todo) o m x tt a)))

  pub counted : x.left.who.forks ≡ k
  counted = ap (λ (a : Identity). a.forks) x.who_is ∙ (keeps_to at_stop).forked
      ∙ ap (λ a. a v) (sym x.elsewhere.forks)

  -- ---- it forks

  module _ (room1 : nat_lt G.g.limits.entries (u.entries + 1) ≡ false)
      (room2 : nat_lt G.g.limits.processes (u.births.processes + n) ≡ false) (count_is : length bs ≡ n)
      (stmts : List Stmt) (born : Born G.g.program (λ a. OwnOrGiven (W_of G lv) v a) (λ a. OwnOrGiven (R_of G lv) v a)
      o.frames stmts
      bs)
      (new_life : ℕ → BirthRights)
      (to_w : (b : ℕ) (a : Loc) → AimedAt G.g.program (λ a. OwnOrGiven (W_of G lv) v a)
      (λ a. OwnOrGiven (R_of G lv) v a) o.frames
      (slice_get stmts b) a → (new_life b).W a)
      (from_w : (b : ℕ) (a : Loc) → (new_life b).W a
      → AimedAt G.g.program (λ a. OwnOrGiven (W_of G lv) v a) (λ a. OwnOrGiven (R_of G lv) v a) o.frames
      (slice_get stmts b) a)
      (to_r : (b : ℕ) (a : Loc) → UsedAt G.g.program (λ a. OwnOrGiven (W_of G lv) v a) (λ a. OwnOrGiven (R_of G lv) v a)
      o.frames
      (slice_get stmts b) a → (new_life b).R a)
      (from_r : (b : ℕ) (a : Loc) → (new_life b).R a
      → UsedAt G.g.program (λ a. OwnOrGiven (W_of G lv) v a) (λ a. OwnOrGiven (R_of G lv) v a) o.frames
      (slice_get stmts b) a)
      (known : (a : Spot) → In a (moved_of hs) ⊎ In a (shared_of hs) → IsSome (fin.get n1.store.map a))
      (dry : OwnOrGiven (R_of G lv) v Output → NotIn output_spot (shared_of hs))
      (parts : (a : Spot) → In a (moved_of hs) → (j : ℕ) × (j < n) × In a (new_life j).moved)
      (gives : (j : ℕ) → j < n → (a : Spot) → In a (new_life j).moved → In a (moved_of hs))
      (unshared : (a : Spot) → In a (moved_of hs) → NotIn a (shared_of hs))
      (parted : (a b : ℕ) → a < n → b < n → a ≢ b → (e : Spot) → In e (new_life a).moved → In e (new_life b).moved → ⊥)
      (handed : (more : ℕ → ℕ → BirthRights) (j : ℕ) → j < n → Handed G (lv v) more v t.frames n1 (new_life j)
      ((k, j) ∷ v))
      (children : (more : ℕ → ℕ → BirthRights) (j : ℕ) → j < n → (b : Birth) → slice_get bs j ≡ Some b
      → Rattle.sp_link.proofs.Relation.Called G ((k, j) ∷ v) (u.births.processes + j)
      → ProcessMatches G (new_life j) more ((k, j) ∷ v) 0 (new_process x.left.who o j b) x.state.store
      (child_of (u.births.processes + j) j)) where
    os_length : length os ≡ n
    os_length = newborns_length x.left.who o 0 bs ∙ count_is

    does_it : step_outcome {L = superpascal G.g} (total_limits G.g) x.state v (Forks goes_on os)
        ≡ act_outcome {L = superpascal G.g} x.state v (Forks goes_on os)
    does_it = comes_to None (passes false false room1
        (ap (λ a. nat_lt G.g.limits.processes (u.births.processes + a)) os_length ∙ room2))

    abbrev before : Conditions
    before = put_at same_name v (Joins k (length os) goes_on) x.state.condition

    abbrev t1 : StateOf G.g
    t1 = record (x.state) {
      condition = after_births G.g.program v k 0 os before;
      forks = put_at same_name v (x.state.forks v + 1) x.state.forks;
      totals = add x.state.totals grows;
    }

    abbrev says_now : Happening
    says_now = happenings.Forked (length os)

    said_now : happening_at G.g x.state v x.left ≡ Some says_now
    said_now = kernel_says G.g v x.state x.left x.runs r x.does
        ∙ ap (λ b. happening_of {L = superpascal G.g} (Forks goes_on os) b) does_it

    goes_next : next_state G.g x.state v ≡ Some t1
    goes_next = kernel_next G.g v x.state x.left x.runs r x.does
        ∙ ap (λ b. Some (result_of {L = superpascal G.g} x.state v b)) does_it
        ∙ ap (λ b. Some b) (born_is G.g v k 0 os
        (with_change {L = superpascal G.g} (AddsTotals grows)
        (with_change {L = superpascal G.g} (Counts_fork v)
        (with_change {L = superpascal G.g} (Becomes v (Joins k (length os) goes_on)) x.state))))

    no_child : (j : ℕ) → v ≢ (k, j) ∷ v
    no_child j e = let h = ap (λ (a : Name). length a) e in omega (arith, h)

    cond_v : t1.condition v ≡ Joins k (length os) goes_on
    cond_v = born_else G.g v k 0 os before v (λ j lt. no_child (0 + j))
        ∙ at_same name_test x.state.condition v (Joins k (length os) goes_on)

    cond_child : (j : ℕ) (b : Birth) → slice_get bs j ≡ Some b
        → t1.condition ((k, j) ∷ v) ≡ Works (new_process x.left.who o j b)
    cond_child j b e = ap (λ a. t1.condition (cons (k, a) v)) (sym (zero-add j))
        ∙ born_at G.g v k 0 os before j (new_process x.left.who o j b)
        (newborns_at x.left.who o 0 bs j b e ∙ ap (λ a. Some (new_process x.left.who o a b)) (zero-add j))

    cond_r : (a : Name) → a ≢ v → ((j : ℕ) → j < n → a ≢ (k, j) ∷ v) → t1.condition a ≡ s.condition a
    cond_r a e f = born_else G.g v k 0 os before a
        (λ j lt h. f j (omega (arith, lt, os_length)) (h ∙ ap (λ b. cons (k, b) v) (zero-add j)))
        ∙ at_other name_test x.state.condition v a (Joins k (length os) goes_on) (λ h. e (sym h))
        ∙ x.elsewhere.condition a e

    -- no child was there
    unborn : (j : ℕ) → s.condition ((k, j) ∷ v) ≡ Absent
    unborn j = l.rights.unborn v k j (let a = ap (λ a. a v) x.elsewhere.forks in omega (arith, a))

    at_place : (j : ℕ) → j < n → (b : Birth) × (slice_get bs j ≡ Some b)
    at_place j lt = item_there bs j (omega (arith, lt, count_is))

    -- one of the children, or none of them
    child_or_not : (a : Name) → ((j : ℕ) × (j < n) × (a ≡ (k, j) ∷ v)) ⊎ ((j : ℕ) → j < n → a ≢ (k, j) ∷ v)
    child_or_not [] = inr (λ j lt e. no_empty j e)
      where
        no_empty : (j : ℕ) → [] ≡ (k, j) ∷ v → ⊥
        no_empty j e = cc e
    child_or_not ((a, b) ∷ w) = by (same_name v w && (a == k)) refl (nat_lt b n) refl
      where
        test : (j : ℕ) → (a, b) ∷ w ≡ (k, j) ∷ v → (same_name v w && (a == k)) ≡ true
        test j e = ap (λ f. f && (a == k)) ((name_test v w).1 (sym (same_tail e)))
            ∙ eq-eqb a k (ap (λ (z : ℕ × ℕ). z.0) (same_head e))

        by : (f : Bool) → (same_name v w && (a == k)) ≡ f → (g : Bool) → nat_lt b n ≡ g
            → ((j : ℕ) × (j < n) × ((a, b) ∷ w ≡ (k, j) ∷ v)) ⊎ ((j : ℕ) → j < n → (a, b) ∷ w ≢ (k, j) ∷ v)
        by true e true h =
            let is = it_is G.g.program (W_of G lv) (R_of G lv) v k o.frames stmts w a e in
            inl (b, ltb-true b n h, ap (λ f. cons (f, b) w) is.1 ∙ ap (λ f. cons (k, b) f) (sym is.0))
        by true e false h = inr (λ j lt f. (let is : b ≡ j = ap (λ (z : ℕ × ℕ). z.1) (same_head f) in
            let ge = ltb-false b n h in omega (arith, lt, is, ge)))
        by false e g h = inr (λ j lt f. (let is : true ≡ false = sym (test j f) ∙ e in absurd (cc is)))

    known_then : StateKeeps G.g x.state
    known_then = known_at at_stop z r x says_now said_now

    known_now : StateKeeps G.g t1
    known_now = record {
      sound = step_sound (total_limits G.g) x.state v t1 known_then.sound goes_next;
      well = lowered G.g (λ b. ticks_in (x.state.condition b)) t1
          (step_well G.g x.state known_then.sound v (raised G.g x.state known_then.well) t1 goes_next);
    }

    -- ---- lives and rights

    abbrev lv1 : RightsOfAll G
    lv1 [] = lv []
    lv1 ((a, b) ∷ w) = pick (same_name v w && (a == k)) (new_life b) (lv ((a, b) ∷ w))

    lv1_other : (a : Name) → s.condition a ≢ Absent → lv1 a ≡ lv a
    lv1_other [] h = refl
    lv1_other ((a, b) ∷ w) h = go (same_name v w && (a == k)) refl
      where
        go : (f : Bool) → (same_name v w && (a == k)) ≡ f
            → pick (same_name v w && (a == k)) (new_life b) (lv ((a, b) ∷ w)) ≡ lv ((a, b) ∷ w)
        go true e =
            let is = it_is G.g.program (W_of G lv) (R_of G lv) v k o.frames stmts w a e in
            absurd (h (ap (λ f. s.condition (cons (f, b) w)) is.1 ∙ ap (λ f. s.condition (cons (k, b) f)) (sym is.0)
            ∙ unborn b))
        go false e = ap (λ f. pick f (new_life b) (lv ((a, b) ∷ w))) e

    lv1_kids : (w : Name) → v ≢ w → (a b : ℕ) → lv1 ((a, b) ∷ w) ≡ lv ((a, b) ∷ w)
    lv1_kids w e a b = ap (λ f. pick (f && (a == k)) (new_life b) (lv ((a, b) ∷ w))) (differs name_test v w e)

    lv1_child : (j : ℕ) → lv1 ((k, j) ∷ v) ≡ new_life j
    lv1_child j = ap (λ f. pick f (new_life j) (lv ((k, j) ∷ v)))
        (ap (λ f. f && (k == k)) (itself name_test v) ∙ eq-eqb k k refl)

    rights_then : Inv G.g.program (W_of G lv) (R_of G lv) x.state.condition x.state.forks
    rights_then = rights_at at_stop z r x says_now said_now

    there_at : x.state.condition v ≢ Absent
    there_at e = subst (λ b. IsLive b) e (working_lives x.state.condition v (x.state.condition v) x.left x.runs)

    abbrev W1 : Name → Loc → Type 0
    W1 a b = writes_after G.g.program (W_of G lv) (R_of G lv) v k o.frames stmts a b

    abbrev R1 : Name → Loc → Type 0
    R1 a b = reads_after G.g.program (W_of G lv) (R_of G lv) v k o.frames stmts a b

    abbrev Aims_at : ℕ → Loc → Type 0
    Aims_at j b = AimedAt G.g.program (λ a. OwnOrGiven (W_of G lv) v a) (λ a. OwnOrGiven (R_of G lv) v a) o.frames
        (slice_get stmts j)
        b

    abbrev Uses_at : ℕ → Loc → Type 0
    Uses_at j b = UsedAt G.g.program (λ a. OwnOrGiven (W_of G lv) v a) (λ a. OwnOrGiven (R_of G lv) v a) o.frames
        (slice_get stmts j)
        b

    to_writes : (a : Name) (b : Loc) → W1 a b → W_of G lv1 a b
    to_writes [] b h = h
    to_writes ((a, j) ∷ w) b h = go (same_name v w && (a == k)) h
      where
        go : (f : Bool) → Either f (Aims_at j b) ((lv ((a, j) ∷ w)).W b) → (pick f (new_life j) (lv ((a, j) ∷ w))).W b
        go true h = to_w j b h
        go false h = h

    from_writes : (a : Name) (b : Loc) → W_of G lv1 a b → W1 a b
    from_writes [] b h = h
    from_writes ((a, j) ∷ w) b h = go (same_name v w && (a == k)) h
      where
        go : (f : Bool) → (pick f (new_life j) (lv ((a, j) ∷ w))).W b → Either f (Aims_at j b) ((lv ((a, j) ∷ w)).W b)
        go true h = from_w j b h
        go false h = h

    to_reads : (a : Name) (b : Loc) → R1 a b → R_of G lv1 a b
    to_reads [] b h = h
    to_reads ((a, j) ∷ w) b h = go (same_name v w && (a == k)) h
      where
        go : (f : Bool) → Either f (Uses_at j b) ((lv ((a, j) ∷ w)).R b) → (pick f (new_life j) (lv ((a, j) ∷ w))).R b
        go true h = to_r j b h
        go false h = h

    from_reads : (a : Name) (b : Loc) → R_of G lv1 a b → R1 a b
    from_reads [] b h = h
    from_reads ((a, j) ∷ w) b h = go (same_name v w && (a == k)) h
      where
        go : (f : Bool) → (pick f (new_life j) (lv ((a, j) ∷ w))).R b → Either f (Uses_at j b) ((lv ((a, j) ∷ w)).R b)
        go true h = from_r j b h
        go false h = h

    rights_now : Inv G.g.program (W_of G lv1) (R_of G lv1) t1.condition t1.forks
    rights_now = inv_same G W1 R1 (W_of G lv1) (R_of G lv1) to_writes from_writes to_reads from_reads t1.condition
        t1.forks
        (forks_keep G.g.program (W_of G lv) (R_of G lv) x.state.condition x.state.forks rights_then v
        (known_if G.g.program (W_of G lv)
        (R_of G lv) x.state.condition x.state.forks rights_then v there_at) x.left.who o
        x.good.named counted
        goes_on x.good.named (ap (λ a. a + 1) counted) (keeps_to at_stop).last y.final.2 stmts bs born
        (y.final.2).linked (length os))

    -- ---- the others

    ended_same : (b : Name) → has_ended (t1.condition b) ≡ has_ended (s.condition b)
    ended_same b = ⊎_elim
        (λ (e : b ≡ v). ap (λ k. has_ended (t1.condition k)) e ∙ ap (λ k. has_ended k) cond_v
        ∙ sym (not_ended at_stop) ∙ ap (λ k. has_ended (s.condition k)) (sym e))
        (λ (e : b ≢ v). ⊎_elim
        (λ (h : (j : ℕ) × (j < n) × (b ≡ (k, j) ∷ v)).
        (let p = at_place h.0 h.1 in ap (λ k. has_ended (t1.condition k)) h.2
        ∙ ap (λ k. has_ended k) (cond_child h.0 p.0 p.1) ∙ sym (ap (λ k. has_ended k) (unborn h.0))
        ∙ ap (λ k. has_ended (s.condition k)) (sym h.2)))
        (λ (h : (j : ℕ) → j < n → b ≢ (k, j) ∷ v). ap (λ k. has_ended k) (cond_r b e h))
        (child_or_not b))
        (same_or_not name_test b v)

    present_same : (b : Name) → s.condition b ≢ Absent → t1.condition b ≢ Absent
    present_same b h e = ⊎_elim
        (λ (f : b ≡ v). subst (λ k. IsLive k) (sym cond_v ∙ subst (λ k. t1.condition k ≡ Absent) f e) tt)
        (λ (f : b ≢ v). ⊎_elim (λ (g : (j : ℕ) × (j < n) × (b ≡ (k, j) ∷ v)). h
        (ap (λ a. s.condition a) g.2 ∙ unborn g.0))
        (λ (g : (j : ℕ) → j < n → b ≢ (k, j) ∷ v). h (sym (cond_r b f g) ∙ e)) (child_or_not b))
        (same_or_not name_test b v)

    abbrev c1 : JournalState
    c1 = with_ticks v (ticks_of G.g t1 v) c

    since_here : c1.since v ≡ t.memory.ticks
    since_here = ap (λ b. cond b (ticks_of G.g t1 v) (c.since v)) (itself name_test v) ∙ ap ticks_in cond_v
        ∙ t.stand.ticks

    few : (a : ℕ) → a < u.births.processes → a < G.births.processes
    few a lt = let b = l.began.processes in omega (arith, lt, b)

    does_other : (a : ℕ) → a < u.births.processes → i ≢ a
        → Performs_all G lv1 (G.births.name a) c1 t1 (u.births.opens a) (u.condition a)
    does_other a lt e =
        let apart : G.births.name a ≢ v = λ h. e
        (G.one_name i a (few i (here at_stop)) (few a lt) (sym h)) in
        let living : s.condition (G.births.name a) ≢ Absent =
        not_absent G (lv (G.births.name a)) (λ a1 b1. lv ((a1, b1) ∷ G.births.name a)) (G.births.name a) c s
        (u.births.opens a) (u.condition a) (l.does a lt) in
        let far : (j : ℕ) → j < n → G.births.name a ≢ (k, j) ∷ v =
        λ j h f. living (ap (λ b. s.condition b) f ∙ unborn j) in
        does_lives G lv lv1 (G.births.name a) (lv1_other (G.births.name a) living)
        (λ a1 b1. lv1_kids (G.births.name a) (λ h. apart (sym h)) a1 b1) c1 t1 (u.births.opens a) (u.condition a)
        (does_stay G lv s t1 l.known.sound l.rights.fair v (alone at_stop) x.good.stays (G.births.name a)
        apart (cond_r (G.births.name a) apart far) (λ a1 b1. ended_same ((a1, b1) ∷ G.births.name a))
        (λ a1 b1. present_same ((a1, b1) ∷ G.births.name a)) c c1
        (since_other c v (ticks_of G.g t1 v) (G.births.name a) apart) refl
        (λ h. h) (u.births.opens a) (u.condition a) (l.does a lt))

    -- ---- the parent

    abbrev kids1 : ℕ → ℕ → BirthRights
    kids1 a b = lv1 ((a, b) ∷ v)

    abbrev fresh1 : Rattle.sp_link.proofs.Relation.Fresh G (lv v) kids1 v
    fresh1 = record { based = z.fresh.based; reads = z.fresh.reads; low_small = z.fresh.low_small; ends = z.fresh.ends }

    abbrev left_it : Config (Memory Plain)
    left_it = on_store (λ a. plain.handed a hs) there

    joined : Joined G (lv v) kids1 v (c1.since v) k n n goes_on t1 left_it
    joined = parent_joins G (lv v) kids1 v fresh1 (c1.since v) k n goes_on t.frames t1 n1
        (parent_stand (c1.since v) since_here) x.good.named t.pc t.stack
        (again G.g G.code G.moves G.shares G.callable (λ a. OwnLocation v a ⊎ (lv v).W a)
        (λ a. OwnLocation v a ⊎ (lv v).R a) (lv v).J
        (ops G) G.free G.finds G.formed.uses z.fresh.reads fresh1.reads
        p1.who (due_after (c.since v) G.pause) (Rel G (lv v) (kids at_stop) v p1.who (c.since v))
        (law G (lv v) (kids at_stop) v z.fresh p1.who z.named (c.since v)) (λ a b. inl z.named)
        goes_on.who (due_after (c1.since v) G.pause) (Rel G (lv v) kids1 v goes_on.who (c1.since v))
        (law G (lv v) kids1 v fresh1 goes_on.who x.good.named (c1.since v)) (λ a b. inl x.good.named) (λ j js m. m)
        (lv v).end [] (lv v).below t.pc t.stack t.frames todo t.follows) hs known dry (omega (arith, some, count_is))
        (λ j lt. (let p = at_place j lt in ap (λ b. has_ended b) (cond_child j p.0 p.1)))
        (λ j lt e. (let p = at_place j lt in subst (λ b. IsLive b) (sym (cond_child j p.0 p.1) ∙ e) tt))
        (λ a h. (let w = parts a h in
        (w.0, w.1, subst (λ (lf : BirthRights). In a lf.moved) (sym (lv1_child w.0)) w.2)))
        (λ j lt. subst (λ (lf : BirthRights). Handed G (lv v) kids1 v t.frames n1 lf ((k, j) ∷ v)) (sym (lv1_child j))
        (handed kids1 j lt))
        (λ j lt a h. gives j lt a (subst (λ (lf : BirthRights). In a lf.moved) (lv1_child j) h)) unshared
        (λ a b la lb ne e h g. parted a b la lb ne e (subst (λ (lf : BirthRights). In e lf.moved) (lv1_child a) h)
        (subst (λ (lf : BirthRights). In e lf.moved) (lv1_child b) g))

    parent_does : Performs_all G lv1 v c1 t1 (u.births.opens i) (sys.Joins n left_it)
    parent_does = subst (λ (lf : BirthRights). Performs G lf kids1 v c1 t1 (u.births.opens i) (sys.Joins n left_it))
        (sym (lv1_other v (present at_stop))) (
          k,
          n,
          goes_on,
          cond_v ∙ ap (λ a. Joins k a goes_on) os_length,
          joined,
          ap (λ (a : Identity). a.opens) x.who_is
              ∙ opens_are at_stop,
          unlaid at_stop,
        )

    -- ---- the machine

    abbrev P : ℕ
    P = u.births.processes

    abbrev b1 : Births
    b1 = births_after_event u.births i (event.Fork n)

    abbrev tbl : Rattle.sp_code.specs.declared.code.ForkTable.ForkTable
    tbl = table_or (slice_get G.code.forks tb)

    abbrev at_number : ℕ → ℕ → sys.Condition Plain
    at_number a j = sys.Working (sys.child_process plain (run_is G) there val a j (child_or (child_at tbl j)))

    abbrev u1 : System Plain
    u1 = record u {
      condition = λ a. cond (is_next u.births n a) (at_number a (a - P))
          (cond (i == a) (sys.Joins n left_it) (u.condition a));
      entries = u.entries + 1;
      births = b1;
    }

    abbrev tn2 : Turn (Memory Plain)
    tn2 = Stopped (machine.Forks tb val n) (At t.pc t.stack t.memory)

    turn_has_no_fault : fault_of G.g.limits u tn2 ≡ None
    turn_has_no_fault = sym (ap (λ b. fault_of G.g.limits u (Stopped b (At t.pc t.stack t.memory))) stop_is)
        ∙ found false false room1 room2

    after_is : system_after_turn plain (run_is G) i tn u ≡ u1
    after_is = ap (λ b. system_after_turn plain (run_is G) i (Stopped b (At t.pc t.stack t.memory)) u) stop_is
        ∙ after_no_fault G i tn2 u no_fault
        ∙ ap (λ f. record (apply_unless_fault plain (run_is G) f i tn2 u)
        { births = births_after_event u.births i (event_or f tn2) }) turn_has_no_fault

    event_is : event_of G.g.limits u tn ≡ event.Fork n
    event_is = ap (λ b. event_of G.g.limits u (Stopped b (At t.pc t.stack t.memory))) stop_is
        ∙ ap (λ b. if b then event.Laid else event_or (fault_of G.g.limits u tn2) tn2) no_fault
        ∙ ap (λ f. event_or f tn2) turn_has_no_fault

    module _ (began : Began G b1) where
      forks_here : u.births.forks i ≡ k
      forks_here = sym (l.forks i (here at_stop)) ∙ ap (λ a. a v) (sym x.elsewhere.forks)

      minus : (j : ℕ) → (P + j) - P ≡ j
      minus j = omega arith

      name_child : (j : ℕ) → j < n → G.births.name (P + j) ≡ (k, j) ∷ v
      name_child j lt = sym (began.names (P + j) (omega (arith, lt)))
          ∙ ap (λ f. cond f (cons (u.births.forks i, (P + j) - P) (u.births.name i)) (u.births.name (P + j)))
          (next_number u.births n j lt)
          ∙ ap (λ a. cons (a, (P + j) - P) (u.births.name i)) forks_here
          ∙ ap (λ a. cons (k, a) (u.births.name i)) (minus j)
          ∙ ap (λ a. cons (k, j) a) (l.began.names i (here at_stop))

      called : (j : ℕ) → j < n → Rattle.sp_link.proofs.Relation.Called G ((k, j) ∷ v) (P + j)
      called j lt = ((let a = began.processes in omega (arith, a, lt)), name_child j lt)

      child_does : (j : ℕ) → j < n → Performs_all G lv1 ((k, j) ∷ v) c1 t1 (u.births.opens (P + j))
          (at_number (P + j) j)
      child_does j lt =
          let p = at_place j lt in (
            new_process x.left.who o j p.0,
            ap (own_part_in t1.condition ((k, j) ∷ v)) (cond_child j p.0 p.1),
            inl (subst (λ a. ProcessMatches G (lv1 ((k, j) ∷ v)) (λ a b. lv1 ((a, b) ∷ (k, j) ∷ v)) ((k, j) ∷ v) a
                (new_process x.left.who o j p.0) t1.store (child_of (P + j) j))
                (sym (since_other c v (ticks_of G.g t1 v) ((k, j) ∷ v) (λ e. no_child j (sym e))
                ∙ l.fresh_since ((k, j) ∷ v) (unborn j)))
                (subst (λ (lf : BirthRights). ProcessMatches G lf (λ a b. lv1 ((a, b) ∷ (k, j) ∷ v)) ((k, j) ∷ v) 0
                (new_process x.left.who o j p.0) t1.store (child_of (P + j) j)) (sym (lv1_child j))
                (children (λ a b. lv1 ((a, b) ∷ (k, j) ∷ v)) j lt p.0 p.1 (called j lt)))),
            sym (l.unmade (P + j) (omega arith)).1,
            l.unlaid no_fault ((k, j) ∷ v),
          )

      -- by its number
      does_old : (a : ℕ) → a < P → Performs_all G lv1 (G.births.name a) c1 t1 (b1.opens a) (u1.condition a)
      does_old a lt = subst (λ b. Performs_all G lv1 (G.births.name a) c1 t1 (u.births.opens a) b)
          (sym (ap (λ f. cond f (at_number a (a - P)) (cond (i == a) (sys.Joins n left_it) (u.condition a)))
          (next_not u.births n a lt)))
          (⊎_elim
          (λ (e : i ≡ a). subst (λ b. Performs_all G lv1 (G.births.name b) c1 t1 (u.births.opens b)
          (cond (i == b) (sys.Joins n left_it) (u.condition b))) e
          (subst (λ b. Performs_all G lv1 v c1 t1 (u.births.opens i) b)
          (sym (ap (λ f. cond f (sys.Joins n left_it) (u.condition i)) (eq-eqb i i refl))) parent_does))
          (λ (e : i ≢ a). subst (λ b. Performs_all G lv1 (G.births.name a) c1 t1 (u.births.opens a) b)
          (sym (ap (λ f. cond f (sys.Joins n left_it) (u.condition a)) (ne_eqb i a e))) (does_other a lt e))
          (number_or i a))

      does_new : (j : ℕ) → j < n → Performs_all G lv1 (G.births.name (P + j)) c1 t1 (b1.opens (P + j))
          (u1.condition (P + j))
      does_new j lt = subst (λ b. Performs_all G lv1 b c1 t1 (u.births.opens (P + j)) (u1.condition (P + j)))
          (sym (name_child j lt))
          (subst (λ b. Performs_all G lv1 ((k, j) ∷ v) c1 t1 (u.births.opens (P + j)) b)
          (sym (ap (λ f. cond f (at_number (P + j) ((P + j) - P))
          (cond (i == P + j) (sys.Joins n left_it) (u.condition (P + j)))) (next_number u.births n j lt)
          ∙ ap (λ b. at_number (P + j) b) (minus j))) (child_does j lt))

      back : (a : ℕ) → P ≤ a → P + (a - P) ≡ a
      back a le = omega (arith, le)

      does_all : (a : ℕ) → a < P + n → Performs_all G lv1 (G.births.name a) c1 t1 (b1.opens a) (u1.condition a)
      does_all a lt = ⊎_elim (λ (h : a < P). does_old a h)
          (λ (h : P ≤ a). subst (λ b. Performs_all G lv1 (G.births.name b) c1 t1 (b1.opens b) (u1.condition b))
          (back a h) (does_new (a - P) (omega (arith, h, lt)))) (cases_lt a P)

      beyond : (a : ℕ) → P + n ≤ a → is_next u.births n a ≡ false
      beyond a le = ap (λ f. nat_le P a && f) (not_less a (P + n) le) ∙ and_with_false (nat_le P a)

      not_i : (a : ℕ) → P ≤ a → i ≢ a
      not_i a le e = let b = here at_stop in omega (arith, b, le, e)

      child_forks : (j : ℕ) → j < n → x.state.forks ((k, j) ∷ v) ≡ 0
      child_forks j lt = subst (λ b. ConditionInRights G.g.program (W_of G lv) (R_of G lv) x.state.forks ((k, j) ∷ v) b)
          (x.elsewhere.condition ((k, j) ∷ v) (λ e. no_child j (sym e)) ∙ unborn j) (rights_then.holds ((k, j) ∷ v))

      forks_old : (a : ℕ) → a < P → t1.forks (G.births.name a) ≡ b1.forks a
      forks_old a lt = ⊎_elim
          (λ (e : i ≡ a). subst (λ b. t1.forks (G.births.name b) ≡ b1.forks b) e
          (at_same name_test x.state.forks v (k + 1) ∙ ap (λ b. b + 1) (sym forks_here)
          ∙ sym (ap (λ f. cond f (u.births.forks i + 1) (u.births.forks i)) (eq-eqb i i refl))))
          (λ (e : i ≢ a). at_other name_test x.state.forks v (G.births.name a) (k + 1)
          (λ h. e (G.one_name i a (few i (here at_stop)) (few a lt) h))
          ∙ ap (λ b. b (G.births.name a)) x.elsewhere.forks ∙ l.forks a lt
          ∙ sym (ap (λ f. cond f (u.births.forks i + 1) (u.births.forks a)) (ne_eqb i a e)))
          (number_or i a)

      forks_new : (j : ℕ) → j < n → t1.forks (G.births.name (P + j)) ≡ b1.forks (P + j)
      forks_new j lt = ap (λ b. t1.forks b) (name_child j lt)
          ∙ at_other name_test x.state.forks v ((k, j) ∷ v) (k + 1) (no_child j) ∙ child_forks j lt
          ∙ sym (l.unmade (P + j) (omega arith)).0
          ∙ sym (ap (λ f. cond f (u.births.forks i + 1) (u.births.forks (P + j)))
          (ne_eqb i (P + j) (not_i (P + j) (omega arith))))

      linked : Linked G lv1 c1 t1 u1
      linked = record {
        rights = rights_now;
        known = known_now;
        reads_output = l.reads_output;
        began = began;
        open_is = l.open_is;
        forks = λ a lt. ⊎_elim (λ (h : a < P). forks_old a h)
            (λ (h : P ≤ a). subst (λ b. t1.forks (G.births.name b) ≡ b1.forks b) (back a h)
            (forks_new (a - P) (omega (arith, h, lt)))) (cases_lt a P);
        processes = (let a = ap (λ (b : Totals). b.processes) x.elsewhere.totals in let b = l.processes in
            let e = os_length in omega (arith, a, b, e));
        channels = (let a = ap (λ (b : Totals). b.channels) x.elsewhere.totals in let b = l.channels in
            omega (arith, a, b));
        entries = (let a = ap (λ (b : Totals). b.entries) x.elsewhere.totals in let b = l.entries in
            omega (arith, a, b));
        fresh_since = λ a e. ⊎_elim (λ (b : a ≡ v). absurd
            (no_join (sym cond_v ∙ subst (λ k. t1.condition k ≡ Absent) b e)))
            (λ (b : a ≢ v). ⊎_elim (λ (h : (j : ℕ) × (j < n) × (a ≡ (k, j) ∷ v)). absurd
            (let p = at_place h.0 h.1 in
            no_work (new_process x.left.who o h.0 p.0)
            (sym (cond_child h.0 p.0 p.1) ∙ subst (λ k. t1.condition k ≡ Absent) h.2 e)))
            (λ h. since_other c v (ticks_of G.g t1 v) a b ∙ l.fresh_since a (sym (cond_r a b h) ∙ e)) (child_or_not a))
            (same_or_not name_test a v);
        pending = λ a lt. subst (λ b. Rattle.sp_link.proofs.Relation.IsPending G (b (channel G.births a)) (u.pending a))
            (sym x.elsewhere.pending) (l.pending a lt);
        none_pending = l.none_pending;
        faulted = l.faulted;
        no_fault = λ e. x.elsewhere.fault ∙ l.no_fault e;
        unlaid = l.unlaid;
        does = does_all;
        unborn = λ a le. ap (λ f. cond f (at_number a (a - P)) (cond (i == a) (sys.Joins n left_it) (u.condition a)))
            (beyond a le) ∙ ap (λ f. cond f (sys.Joins n left_it) (u.condition a))
            (ne_eqb i a (not_i a (omega (arith, le)))) ∙ l.unborn a (omega (arith, le));
        unmade = λ a le. (
          ap (λ f. cond f (u.births.forks i + 1) (u.births.forks a))
              (ne_eqb i a (not_i a (omega (arith, le)))) ∙ (l.unmade a (omega (arith, le))).0,
          (l.unmade a (omega (arith, le))).1,
        );
        numbered = λ a h. ⊎_elim (λ (e : a ≡ v). (i, (let b = here at_stop in omega (arith, b)), sym e))
            (λ (e : a ≢ v). ⊎_elim (λ (g : (j : ℕ) × (j < n) × (a ≡ (k, j) ∷ v)).
            (P + g.0, (let b = g.1 in omega (arith, b)), name_child g.0 g.1 ∙ sym g.2))
            (λ g. (let w = l.numbered a (λ f. h (cond_r a e g ∙ f)) in (w.0, (let b = w.1 in omega (arith, b)), w.2)))
            (child_or_not a)) (same_or_not name_test a v);
      }
        where
          no_join : ◌≡◌ {A = Condition Process LocationContent Address} (Joins k (length os) goes_on) Absent → ⊥
          no_join e = cc e

          no_work : (a : Process) → ◌≡◌ {A = Condition Process LocationContent Address} (Works a) Absent → ⊥
          no_work a e = cc e

    pub fork_entry : Entry_of G c s u i d
    fork_entry = record {
      turn = tn;
      is_turn = tn_is;
      way = way_of_step at_stop x.steps x.state (x.turn says_now said_now) says_now t1
          (makes_step at_stop x.state t1 x.left says_now no_fault x.runs said_now goes_next) _
          (sym told);
      speaks = subst (λ f. IsOpen u.births f) (sym event_is) tt;
      lives = lv1;
      linked = λ began. now_by G lv1 c1 t1 (system_after_turn plain (run_is G) i tn u)
          (subst (λ a. Linked G lv1 c1 t1 a) (sym after_is)
          (linked (subst (λ (a : System Plain). Began G a.births) after_is began)));
    }
      where
        told : happening u.births (event_of G.g.limits u tn) ≡ says_now
        told = ap (λ f. happening u.births f) event_is ∙ ap (λ a. happenings.Forked a) (sym os_length)
