-- A process that does nothing more: it faults, or it is laid down after another's fault. `Halted` is where its turn has
-- come to on both sides, with one output; `laid_entry` and `failed_entry` are the entries `Laid` and `Fault`.
use Rattle.std.proofs.Common.{◌≡◌, ◌⊎◌, inl, ⊎_elim, ℕ, ◌+◌, ◌==◌, List, ◌∷◌, length, Some, Bool, true, false}
use Rattle.std.proofs.Common.{cond, if◌then◌else◌, ◌||◌, refl, sym, ap, ◌∙◌, subst}
use Rattle.std.proofs.Common.{one-add}
use Rattle.std.specs.Prelude.{◌≢◌}
use Rattle.sp_base.specs.declared.fault.Fault.{Fault}
use Rattle.sp_base.specs.declared.fault.Fault.TheVariants as fault
use Rattle.sp_base.proofs.Facts.{is_none_plus, not_true_and_false}
use Rattle.sp_journal.specs.Births.{happening, births_after_event}
use Rattle.sp_journal.specs.Maps.{at_key}
use Rattle.sp_journal.specs.declared.entry.Event.TheVariants as event
use Rattle.sp_cell.specs.Map.{Plain, output_of}
use Rattle.sp_meaning.specs.Model.{Name, Faults, with_change, Moves, Opens, Forks, Offering, EndsProcess, MeetsFault}
use Rattle.sp_meaning.specs.EffectTree.{run_tree}
use Rattle.sp_meaning.specs.Steps.{ActOf, ActOutcome, Advances, Faulty}
use Rattle.sp_meaning.specs.Entries.{Happening, Laid, Opened as Is_opened, Offered as Is_offered}
use Rattle.sp_journal.specs.Names as happenings
use Rattle.sp_meaning.specs.LocalWork.{RunInput, Loc, Cell, Output, LocationContent, LocalState, Item, Process}
use Rattle.sp_meaning.specs.LocalWork.{WorkOutcome, Computed, EndsInFault, IllFormed, OutOfFuel}
use Rattle.sp_meaning.specs.LocalWork.{same_loc}
use Rattle.sp_meaning.specs.Actions.{Action, Birth, Stepped, Ticked, Opened, Forked, Offered}
use Rattle.sp_meaning.specs.Actions as actions
use Rattle.sp_meaning.specs.SuperPascal.{superpascal, action_of, with_todo, fuel_of, root}
use Rattle.sp_meaning.specs.Run.{Store}
use Rattle.sp_meaning.specs.Runs.{StateOf, total_limits, running_process, next_state, happening_at, happening_of}
use Rattle.sp_meaning.specs.Along.{JournalState, ticks_in, ticks_of, with_ticks, with_fault, EntryStep}
use Rattle.sp_meaning.specs.Along as along
use Rattle.sp_meaning.specs.Turn as source
use Rattle.sp_meaning.proofs.Instance.{loc_test}
use Rattle.sp_meaning.proofs.Keys.{name_test}
use Rattle.sp_meaning.proofs.Maps.{differs, itself}
use Rattle.sp_meaning.proofs.RightsInvariant.{Keeps_to}
use Rattle.sp_meaning.proofs.StepLaws.{StateKeeps, step_well, raised, lowered}
use Rattle.sp_meaning.proofs.Rights.{OwnOrGiven}
use Rattle.sp_meaning.proofs.Sound.{step_sound}
use Rattle.sp_code.specs.Machine.{Config, At}
use Rattle.sp_code.specs.Machine as machine
use Rattle.sp_code.specs.Turns.{Turn, Stopped, Faulted, IsTurn, BeginsOrFaults}
use Rattle.sp_code.specs.Memory.{Memory}
use Rattle.sp_code.specs.PlainStore.{plain}
use Rattle.sp_code.specs.System.{system_after_turn, event_of, event_or, fault_of, config_of, apply_unless_fault}
use Rattle.sp_code.specs.System as sys
use Rattle.sp_codegen.specs.FramePairs.{FramePair}
use Rattle.sp_codegen.specs.CodePositions.{StandsFor}
use Rattle.sp_meaning.proofs.SilentActions.{IsSameButOne}
use Rattle.sp_link.proofs.AtStop.{keeps_at, same_but_dead, same_but_one, same_output}
use Rattle.sp_link.proofs.Journal.{Way_on, IsOpen, now_by}
use Rattle.sp_link.proofs.KernelSteps.{kernel_next, kernel_says, act}
use Rattle.sp_link.proofs.OneChanges.{runs_as_pr, linked_local}
use Rattle.sp_link.proofs.Pauses.{Entry_of, Meant, Machined, turn_is, after_no_fault, after_laid, kt}
use Rattle.sp_link.proofs.Pauses as at
use Rattle.sp_link.proofs.Relation.{RunContext, BirthRights, W_of, R_of, St, Rel, TooLarge}
use Rattle.sp_link.proofs.Relation.{OutputMatches, Linked, run_is}
use Rattle.sp_link.proofs.Relation.{ops}
use Rattle.sp_link.proofs.TurnsMeet.{turn_known}
use Rattle.sp_link.proofs.Relation.{AtStop}
use Rattle.sp_link.proofs.Pauses.{MatchesNow, PausesAt, ForksAt, OffersAt, OpensAt, EndsAt, pauses_at, forks_at}
use Rattle.sp_link.proofs.Pauses.{offers_at, opens_at, ends_at}
use Rattle.sp_link.proofs.OneChanges.{unlaid}

-- a step of the kernel says something
abbrev pub IsKernel : (g : RunInput) → ActOf (superpascal g) → Type 0
IsKernel g (Moves o ws) = ⊥
IsKernel g (MeetsFault f) = ⊥
IsKernel _ _ = Unit {0}

pub something_said : (g : RunInput) (a : ActOf (superpascal g)) → IsKernel g a → (o : ActOutcome (superpascal g))
    → (what : Happening) × (happening_of {L = superpascal g} a o ≡ Some what)
something_said g (Moves p ws) h o = absurd h
something_said g (Opens p ws) h (Advances cs) = (Is_opened, refl)
something_said g (Opens p ws) h (Faulty f) = (happenings.Faulted f, refl)
something_said g (Forks p os) h (Advances cs) = (happenings.Forked (length os), refl)
something_said g (Forks p os) h (Faulty f) = (happenings.Faulted f, refl)
something_said g (Offering p) h (Advances cs) =
    (Is_offered (Rattle.sp_meaning.specs.Steps.way_of p.payload) p.channel, refl)
something_said g (Offering p) h (Faulty f) = (happenings.Faulted f, refl)
something_said g EndsProcess h (Advances cs) = (happenings.Ended, refl)
something_said g EndsProcess h (Faulty f) = (happenings.Faulted f, refl)
something_said g (MeetsFault e) h o = absurd h

pub no_tree : (y : Rattle.sp_meaning.specs.Values.Value) (bs : List ℕ)
    → Rattle.sp_meaning.specs.LocalWork.Tree y ≡ Rattle.sp_meaning.specs.LocalWork.Written bs → ⊥
no_tree y bs e = cc e

-- a component of a variable is not in the output
pub cell_no_output : (a : Rattle.sp_meaning.specs.LocalWork.Address) (owner : Name) (frame variable : ℕ)
    → a.spot ≡ Cell owner frame variable → same_loc a.spot Output ≡ false
cell_no_output a owner frame variable e = differs loc_test a.spot Output
    (λ f. let b : Cell owner frame variable ≡ Output = sym e ∙ f in cc b)

module _ (G : RunContext) (lf : BirthRights) (more : ℕ → ℕ → BirthRights) (q : Name) where
  -- the output of a memory that stands
  pub told_by : {w : Rattle.sp_meaning.specs.LocalWork.Identity} {since : ℕ} {js : List FramePair} {o : LocalState}
      {s : Store}
      {n : Memory Plain} (pc : ℕ) (st : List machine.Entry) → St G lf more q w since js o s n
      → OutputMatches G lf more q s (At pc st n)
  told_by pc st t = λ may. let y = t.output may in (y.0, y.1, ap output_of y.2)

  pub told_break : (w : Rattle.sp_meaning.specs.LocalWork.Identity) (since : ℕ) (e : Config (Memory Plain)) (s : Store)
      → StandsFor (Rel G lf more q w since) e s → OutputMatches G lf more q s e
  told_break w since (At pc st n) s h = told_by pc st h.2

  -- with a store that has the same output
  pub told_same : (e : Config (Memory Plain)) (s s1 : Store) → s1 Output ≡ s Output → OutputMatches G lf more q s e
      → OutputMatches G lf more q s1 e
  told_same (At pc st n) s s1 same h = λ may. let y = h may in (y.0, same ∙ y.1, y.2)

module _ (at_stop : AtStop) where
  open at_stop use {
    run as G,
    lives as lv,
    course as c,
    state as s,
    system as u,
    linked as l,
    number as i,
    configuration as d,
  }

  abbrev v : Name
  v = at.w at_stop

  -- where its turn has come to, on both sides
  pub record Halted : Type 1 where
    pub turn : Turn (Memory Plain)
    pub is_turn : IsTurn (ops G) G.code d turn
    pub steps : ℕ
    pub state : StateOf G.g
    pub paused : Bool
    pub way : along.Turn G.g G.pause (c.since v) v steps s state paused
    pub left : Process
    pub runs : running_process G.g state v ≡ Some left
    pub others_stay : (r : Name) → r ≢ v → state.condition r ≡ s.condition r
    pub forks : state.forks ≡ s.forks
    pub pending : state.pending ≡ s.pending
    pub totals : state.totals ≡ s.totals
    pub stays : (a : Loc) → (state.store a ≡ s.store a) ⊎ OwnOrGiven (W_of G lv) v a
    pub rights : Keeps_to G.g.program (W_of G lv) (R_of G lv) s.forks v left
    pub told : OutputMatches G (lv v) (λ k n. lv ((k, n) ∷ v)) v state.store (config_of turn)

  -- ---- it is laid down

  laid_other : (c1 : JournalState) (r : Name) → r ≢ v → (with_fault v c1).laid r ≡ c1.laid r
  laid_other c1 r a = ap (λ b. b || c1.laid r) (differs name_test v r (λ e. a (sym e)))

  laid_here : (c1 : JournalState) → (with_fault v c1).laid v ≡ true
  laid_here c1 = ap (λ b. b || c1.laid v) (itself name_test v)

  pub laid_entry : Halted → u.faulted ≡ true → Entry_of G c s u i d
  laid_entry h bad = record {
    turn = h.turn;
    is_turn = h.is_turn;
    way = way_by _ (sym said);
    speaks = subst (IsOpen u.births) (sym event_is) tt;
    lives = lv;
    linked = λ began. now_by G lv c1 h.state (system_after_turn plain (run_is G) i h.turn u)
        (subst (λ y. Linked G lv c1 h.state y) (sym (after_laid G i h.turn u bad)) linked);
  }
    where
      c1 : JournalState
      c1 = with_fault v c

      event_is : event_of G.g.limits u h.turn ≡ event.Laid
      event_is = ap (λ b. if b then event.Laid else event_or (fault_of G.g.limits u h.turn) h.turn) bad

      said : happening u.births (event_of G.g.limits u h.turn) ≡ Laid
      said = ap (happening u.births) event_is

      linked : Linked G lv c1 h.state (record u { condition = at_key ◌==◌ i (sys.Laid (config_of h.turn)) u.condition })
      linked = linked_local at_stop h.state c1
          (sys.Laid (config_of h.turn)) u.faulted h.others_stay h.forks
          h.pending h.totals h.stays
          (turn_known G.g G.pause (c.since v) v h.steps s h.state h.paused l.known h.way) h.left
          h.runs h.rights
          (λ r a. refl) (λ r a. laid_other c r a) (λ e. refl) (sym bad)
          (λ e. absurd (not_true_and_false u.faulted bad e)) (λ e. absurd (not_true_and_false u.faulted bad e))
          (laid_here c, refl, (h.left, h.runs), h.told) (λ e. absurd (cc e))

      way_by : (e : Happening) → Laid ≡ e → Way_on G c s v e
      way_by e k = record {
        unlaid = unlaid at_stop;
        steps = h.steps;
        source = h.state;
        paused = h.paused;
        turn = h.way;
        cost = 0;
        course = c1;
        state = h.state;
        enters = λ left n y. subst (λ f. EntryStep G.g left c h.state h.paused v f (0 + n)) k
            (l.faulted ∙ bad, subst (λ j. left c1 h.state j) (is_none_plus n) y);
      }

  -- ---- it faults

  pub failed_entry : (h : Halted) → h.paused ≡ false → (f : Fault)
      → happening_at G.g h.state v h.left ≡ Some (happenings.Faulted f)
      → next_state G.g h.state v ≡ Some (with_change {L = superpascal G.g} (Faults v f) h.state)
      → fault_of G.g.limits u h.turn ≡ Some f
      → u.faulted ≡ false → Entry_of G c s u i d
  failed_entry h whole f says_it goes_next fault_is no_fault =
      record {
        turn = h.turn;
        is_turn = h.is_turn;
        way = way_by _ (sym said);
        speaks = subst (IsOpen u.births) (sym event_is) tt;
        lives = lv;
        linked = λ began. now_by G lv c1 t1 (system_after_turn plain (run_is G) i h.turn u)
            (subst (λ y. Linked G lv c1 t1 y) (sym after_is) linked);
      }
    where
      t1 : StateOf G.g
      t1 = with_change {L = superpascal G.g} (Faults v f) h.state

      c0 : JournalState
      c0 = with_ticks v (ticks_of G.g t1 v) c

      c1 : JournalState
      c1 = with_fault v c0

      known_then : StateKeeps G.g h.state
      known_then = turn_known G.g G.pause (c.since v) v h.steps s h.state h.paused l.known h.way

      known_now : StateKeeps G.g t1
      known_now = record {
        sound = step_sound (total_limits G.g) h.state v t1 known_then.sound goes_next;
        well = lowered G.g (λ a. ticks_in (h.state.condition a)) t1
            (step_well G.g h.state known_then.sound v (raised G.g h.state known_then.well) t1 goes_next);
      }

      event_is : event_of G.g.limits u h.turn ≡ event.Fault f
      event_is = ap (λ b. if b then event.Laid else event_or (fault_of G.g.limits u h.turn) h.turn) no_fault
          ∙ ap (λ o. event_or o h.turn) fault_is

      said : happening u.births (event_of G.g.limits u h.turn) ≡ happenings.Faulted f
      said = ap (happening u.births) event_is

      after_is : system_after_turn plain (run_is G) i h.turn u
          ≡ record u { condition = at_key ◌==◌ i (sys.Laid (config_of h.turn)) u.condition; faulted = true }
      after_is = after_no_fault G i h.turn u no_fault
          ∙ ap (λ o. record (apply_unless_fault plain (run_is G) o i h.turn u)
          { births = births_after_event u.births i (event_or o h.turn) }) fault_is

      linked : Linked G lv c1 t1 (record u {
        condition = at_key ◌==◌ i (sys.Laid (config_of h.turn)) u.condition;
        faulted = true;
      })
      linked = linked_local at_stop t1 c1
          (sys.Laid (config_of h.turn)) true h.others_stay h.forks h.pending
          h.totals h.stays known_now h.left h.runs h.rights
          (λ r a. ap (λ b. cond b (ticks_of G.g t1 v) (c.since r)) (differs name_test v r (λ e. a (sym e))))
          (λ r a. laid_other c0 r a) (λ e. refl) refl (λ e. absurd (not_true_and_false true refl e))
          (λ e. absurd (not_true_and_false true refl e))
          (laid_here c0, refl, (h.left, h.runs), h.told) (λ e. absurd (cc e))

      way_by : (e : Happening) → happenings.Faulted f ≡ e → Way_on G c s v e
      way_by e k = record {
        unlaid = unlaid at_stop;
        steps = h.steps;
        source = h.state;
        paused = h.paused;
        turn = h.way;
        cost = 1;
        course = c1;
        state = t1;
        enters = λ left n y. subst (λ e. EntryStep G.g left c h.state h.paused v e (1 + n)) k (
          l.faulted ∙ no_fault,
          record {
            unpaused = whole;
            next = t1;
            rest = n;
            size = one-add n;
            makes = record { process = h.left; runs = h.runs; happens = says_it; steps = goes_next };
            ahead = y;
          },
        );
      }

  -- ---- the first process where the frame of the program is too large

  module _ (z : TooLarge G (lv v) (λ k n. lv ((k, n) ∷ v)) v s.store (at.p1 at_stop) d) where
    breaks : ◌≡◌ {A = WorkOutcome Action × Store} (run_tree same_loc (action_of G.g (at.p1 at_stop))
        s.store)
        (EndsInFault fault.F12, s.store)
    breaks = ap (λ (y : Process). run_tree same_loc (action_of G.g y) s.store) z.is_root
        ∙ ap (λ y. run_tree same_loc (Rattle.sp_meaning.specs.Actions.next_action G.g (fuel_of G.g (root G.g).own) y
        (root G.g).who
        (root G.g).own) s.store) z.faults

    says_it : happening_at G.g s v (at.p1 at_stop) ≡ Some (happenings.Faulted fault.F12)
    says_it = kernel_says G.g v s (at.p1 at_stop) (runs_as_pr at_stop)
        (EndsInFault fault.F12, s.store)
        breaks

    abbrev too_large_halt : Halted
    too_large_halt = record {
      turn = Faulted fault.F12 d;
      is_turn = subst (λ b. BeginsOrFaults b d (Faulted fault.F12 d)
          (Rattle.sp_code.specs.Turns.Runs (ops G) G.code d (Faulted fault.F12 d))) (sym z.no_room) refl;
      steps = 0;
      state = s;
      paused = false;
      way = record {
        stays = refl;
        unpaused = refl;
        process = at.p1 at_stop;
        runs = runs_as_pr at_stop;
        what = happenings.Faulted fault.F12;
        happens = says_it;
      };
      left = at.p1 at_stop;
      runs = runs_as_pr at_stop;
      others_stay = λ r a. refl;
      forks = refl;
      pending = refl;
      totals = refl;
      stays = λ a. inl refl;
      rights = kt at_stop;
      told = z.output;
    }

    pub too_large_fails : u.faulted ≡ false → Entry_of G c s u i d
    too_large_fails no_fault = failed_entry too_large_halt refl fault.F12 says_it
        (kernel_next G.g v s (at.p1 at_stop) (runs_as_pr at_stop)
        (EndsInFault fault.F12, s.store) breaks)
        refl no_fault

    pub too_large_laid : u.faulted ≡ true → Entry_of G c s u i d
    too_large_laid bad = laid_entry too_large_halt bad

  -- ---- where a turn has come to, by its end

  module _ (z : MatchesNow at_stop) where
    abbrev pub paused_halt : (todo : List Item) (o : LocalState) (m : Store)
        → Meant at_stop z (Computed (source.Paused todo) o, m)
        → PausesAt at_stop z todo o m → Halted
    paused_halt todo o m x t = record {
      turn = Stopped machine.Pauses (At t.pc t.stack t.memory);
      is_turn = turn_is at_stop z (Stopped machine.Pauses (At t.pc t.stack t.memory)) (t.last, t.comes, t.stops);
      steps = x.steps;
      state = x.state;
      paused = true;
      way = x.turn;
      left = with_todo todo (at.p1 at_stop).who o;
      runs = x.runs;
      others_stay = x.elsewhere.condition;
      forks = x.elsewhere.forks;
      pending = x.elsewhere.pending;
      totals = x.elsewhere.totals;
      stays = subst (λ y. (a : Loc) → (y a ≡ s.store a) ⊎ OwnOrGiven (W_of G lv) v a) (sym x.store) x.good.stays;
      rights = record {
        named = z.named;
        forked = (kt at_stop).forked;
        last = (kt at_stop).last;
        fit = x.good.fit;
      };
      told = subst (λ y. OutputMatches G (lv v) (λ k n. lv ((k, n) ∷ v)) v y (At t.pc t.stack t.memory)) (sym x.store)
          (told_by G (lv v) (λ k n. lv ((k, n) ∷ v)) v t.pc t.stack t.stand);
    }

    module _ (r : WorkOutcome Action × Store) (x : Rattle.sp_link.proofs.AtStop.Stopped_at at_stop z r)
        (what : Happening) (said : happening_at G.g x.state v x.left ≡ Some what) where
      abbrev pub halt_by : (tn : Turn (Memory Plain)) → IsTurn (ops G) G.code d tn
          → OutputMatches G (lv v) (λ k n. lv ((k, n) ∷ v)) v x.state.store (config_of tn) → Halted
      halt_by tn is told = record {
        turn = tn;
        is_turn = is;
        steps = x.steps;
        state = x.state;
        paused = false;
        way = x.turn what said;
        left = x.left;
        runs = x.runs;
        others_stay = x.elsewhere.condition;
        forks = x.elsewhere.forks;
        pending = x.elsewhere.pending;
        totals = x.elsewhere.totals;
        stays = x.good.stays;
        rights = keeps_at at_stop z r x what said;
        told = told;
      }

    -- what the step at a stop says
    pub says_something : (r : WorkOutcome Action × Store) (x : Rattle.sp_link.proofs.AtStop.Stopped_at at_stop z r)
        → IsKernel G.g (act G.g v x.state x.left x.runs r x.does) → (what : Happening)
        × (happening_at G.g x.state v x.left ≡ Some what)
    says_something r x k =
        let y = something_said G.g (act G.g v x.state x.left x.runs r x.does) k
        (Rattle.sp_meaning.specs.Steps.step_outcome (total_limits G.g) x.state v
        (act G.g v x.state x.left x.runs r x.does)) in
        (y.0, kernel_says G.g v x.state x.left x.runs r x.does ∙ y.1)

    abbrev pub forked_halt : (bs : List Birth) (todo : List Item) (o : LocalState) (m : Store)
        → Meant at_stop z (Computed (source.Stops (Forked bs todo)) o, m)
        → ForksAt at_stop z bs todo o m → Halted
    forked_halt bs todo o m x t = let y = says_something (Computed (Forked bs todo) o, m) x tt in
        halt_by (Computed (Forked bs todo) o, m) x y.0 y.1 (Stopped t.stop (At t.pc t.stack t.memory))
        (turn_is at_stop z (Stopped t.stop (At t.pc t.stack t.memory)) (t.last, t.comes, t.stops))
        (told_same G (lv v) (λ k n. lv ((k, n) ∷ v)) v (At t.pc t.stack t.memory) m x.state.store
        (⊎_elim (λ b. b) (λ b. absurd b) (same_but_dead at_stop z (Forked bs todo) o m x tt Output))
        (told_by G (lv v) (λ k n. lv ((k, n) ∷ v)) v t.pc t.stack t.stand))

    abbrev pub offered_halt : (ch : Rattle.sp_meaning.specs.Model.Channel) (k : ℕ)
        (cg : Rattle.sp_meaning.specs.Model.Payload LocationContent Rattle.sp_meaning.specs.LocalWork.Address)
        (todo : List Item) (o : LocalState)
        (m : Store) → Meant at_stop z (Computed (source.Stops (Offered ch k cg todo)) o, m)
        → OffersAt at_stop z ch k cg todo o m → Halted
    offered_halt ch k cg todo o m x t = let y = says_something (Computed (Offered ch k cg todo) o, m) x tt in
        halt_by (Computed (Offered ch k cg todo) o, m) x y.0 y.1 (Stopped t.stop (At t.pc t.stack t.memory))
        (turn_is at_stop z (Stopped t.stop (At t.pc t.stack t.memory)) (t.last, t.comes, t.stops))
        (told_same G (lv v) (λ k n. lv ((k, n) ∷ v)) v (At t.pc t.stack t.memory) m x.state.store
        (⊎_elim (λ b. b) (λ b. absurd b)
        (same_but_dead at_stop z (Offered ch k cg todo) o m x tt Output))
        (told_by G (lv v) (λ k n. lv ((k, n) ∷ v)) v t.pc t.stack t.stand))

    abbrev pub over_halt : (o : LocalState) (m : Store)
        → Meant at_stop z (Computed (source.Stops actions.Ended) o, m)
        → EndsAt at_stop z o m → Halted
    over_halt o m x t = let y = says_something (Computed actions.Ended o, m) x tt in
        halt_by (Computed actions.Ended o, m) x y.0 y.1 (Stopped machine.Ends (At t.pc t.stack t.memory))
        (turn_is at_stop z (Stopped machine.Ends (At t.pc t.stack t.memory)) (
          At t.pc t.stack t.memory,
          t.comes,
          t.stops,
        ))
        (told_same G (lv v) (λ k n. lv ((k, n) ∷ v)) v (At t.pc t.stack t.memory) m x.state.store
        (⊎_elim (λ b. b) (λ b. absurd b) (same_but_dead at_stop z actions.Ended o m x tt Output))
        (told_by G (lv v) (λ k n. lv ((k, n) ∷ v)) v t.pc t.stack t.stand))

    -- the target of an open is no console
    abbrev pub opened_halt : (todo : List Item) (o : LocalState) (m : Store)
        → Meant at_stop z (Computed (source.Stops (Opened todo)) o, m)
        → OpensAt at_stop z todo o m → Halted
    opened_halt todo o m x t = let y = says_something (Computed (Opened todo) o, m) x tt in
        halt_by (Computed (Opened todo) o, m) x y.0 y.1 (Stopped (machine.Opens t.target) (At t.pc t.stack t.memory))
        (turn_is at_stop z (Stopped (machine.Opens t.target) (At t.pc t.stack t.memory)) (t.last, t.comes, t.stops))
        (λ may. (let y = t.stand.output may in
        (y.0, wrote may (same_but_one at_stop z todo o m x) ∙ y.1, ap output_of y.2)))
      where
        output_is : m Output ≡ t.store Output
        output_is = ap (λ (y : Store). y Output) t.store_is
            ∙ ap (λ b. cond b (Rattle.sp_meaning.specs.LocalWork.content_with t.variable (t.store t.variable.spot)
            (Rattle.sp_meaning.specs.LocalWork.Tree
            (Rattle.sp_meaning.specs.Values.Chan
            (record {
              owner = (at.p1 at_stop).who.name;
              nth = (at.p1 at_stop).who.opens;
            })))) (t.store Output))
            (cell_no_output t.variable t.points.owner t.points.frame t.points.variable t.points.cell_is)

        wrote : Rattle.sp_link.proofs.Relation.IsReadable G (lv v) (λ k n. lv ((k, n) ∷ v)) v Output
            → IsSameButOne (length x.left.own.frames) x.state.store m → x.state.store Output ≡ t.store Output
        wrote may h = ⊎_elim (λ e. e ∙ output_is)
            (λ e. ⊎_elim (λ b. absurd b) (λ b. absurd
            (let y = t.stand.output may in no_tree h.value y.0 (sym h.now ∙ ap m b ∙ output_is ∙ y.1))) e)
            (h.others Output)

    abbrev pub bad_halt : (f : Fault) (m : Store) → Meant at_stop z (EndsInFault f, m)
        → Machined at_stop z (EndsInFault f, m) → Halted
    bad_halt f m x t =
        halt_by (EndsInFault f, m) x (happenings.Faulted f)
        (kernel_says G.g v x.state x.left x.runs (EndsInFault f, m) x.does)
        (Faulted f t.configuration)
        (turn_is at_stop z (Faulted f t.configuration) (t.configuration, t.comes, (t.fails, refl)))
        (told_same G (lv v) (λ k n. lv ((k, n) ∷ v)) v t.configuration m x.state.store
        (same_output at_stop z f m x)
        (told_break G (lv v) (λ k n. lv ((k, n) ∷ v)) v (at.p1 at_stop).who (c.since v) t.configuration m
        t.stands))

    -- the entry of a fault of an instruction
    pub failing : (f : Fault) (m : Store) → Meant at_stop z (EndsInFault f, m)
        → Machined at_stop z (EndsInFault f, m) → u.faulted ≡ false → Entry_of G c s u i d
    failing f m x t no_fault = failed_entry (bad_halt f m x t) refl f
        (kernel_says G.g v x.state x.left x.runs (EndsInFault f, m) x.does)
        (kernel_next G.g v x.state x.left x.runs (EndsInFault f, m) x.does) refl no_fault

    -- and of a process that is laid, wherever its turn ends
    pub laying : (r : WorkOutcome source.Stop × Store) → Rattle.sp_codegen.proofs.Safe.AtEnd r
        → Meant at_stop z r → Machined at_stop z r → u.faulted ≡ true → Entry_of G c s u i d
    laying (Computed (source.Paused todo) o, m) e x t bad = laid_entry (paused_halt todo o m x (pauses_at at_stop z todo
        o m t)) bad
    laying (Computed (source.Stops (Stepped todo)) o, m) e x t bad = absurd e
    laying (Computed (source.Stops (Ticked todo)) o, m) e x t bad = absurd e
    laying (Computed (source.Stops (Opened todo)) o, m) e x t bad =
        laid_entry (opened_halt todo o m x (opens_at at_stop z todo o m t)) bad
    laying (Computed (source.Stops (Forked bs todo)) o, m) e x t bad =
        laid_entry (forked_halt bs todo o m x (forks_at at_stop z bs todo o m t)) bad
    laying (Computed (source.Stops (Offered ch k cg todo)) o, m) e x t bad =
        laid_entry (offered_halt ch k cg todo o m x (offers_at at_stop z ch k cg todo o m t)) bad
    laying (Computed (source.Stops actions.Ended) o, m) e x t bad =
        laid_entry (over_halt o m x (ends_at at_stop z o m t)) bad
    laying (EndsInFault f, m) e x t bad = laid_entry (bad_halt f m x t) bad
    laying (IllFormed, m) e x t bad = absurd e
    laying (OutOfFuel, m) e x t bad = absurd e
