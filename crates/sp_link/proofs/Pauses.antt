-- The entry `Pause` on both sides (`pausing`). `Entry_of` is the form of every event's lemma: the turn of the machine,
-- the way of the meaning to the same entry, and the relation after it.
use Rattle.std.proofs.Common.{◌≡◌, ◌⊎◌, inl, ℕ, ◌+◌, ◌==◌, List, ◌∷◌, true, false, if◌then◌else◌, cond, refl, sym, ap}
use Rattle.std.proofs.Common.{◌∙◌, subst, Some, one-add}
use Rattle.sp_base.proofs.Facts.{is_none_plus}
use Rattle.sp_journal.specs.Births.{births_after_event}
use Rattle.sp_journal.specs.Maps.{at_key}
use Rattle.sp_journal.specs.declared.entry.Event.TheVariants as event
use Rattle.sp_cell.specs.Map.{Plain}
use Rattle.sp_meaning.specs.Actions.{Birth, Opened, Forked, Offered, Ended}
use Rattle.sp_meaning.specs.Model.{Name, Channel, Payload}
use Rattle.sp_meaning.specs.Entries.{Happening, Paused as Is_paused}
use Rattle.sp_meaning.specs.LocalWork.{Loc, LocationContent, Address, LocalState, Item, Process, WorkOutcome, Computed}
use Rattle.sp_meaning.specs.SuperPascal.{with_todo}
use Rattle.sp_meaning.specs.Run.{Store}
use Rattle.sp_meaning.specs.Runs.{StateOf, running_process, happening_at, next_state}
use Rattle.sp_meaning.specs.Along.{JournalState, ticks_in, ticks_of, with_ticks, course_after, KernelStep, EntryStep}
use Rattle.sp_meaning.specs.Along.{Turn as source_turn}
use Rattle.sp_meaning.specs.Turn as source
use Rattle.sp_meaning.proofs.Keys.{name_test}
use Rattle.sp_meaning.proofs.RightsInvariant.{Keeps_to}
use Rattle.sp_meaning.proofs.Rights.{OwnOrGiven}
use Rattle.sp_meaning.proofs.Maps.{itself, differs}
use Rattle.sp_code.specs.Machine.{Config, At}
use Rattle.sp_code.specs.Machine as machine
use Rattle.sp_code.specs.Turns as Turns
use Rattle.sp_code.specs.Turns.{Turn, Stopped, IsTurn}
use Rattle.sp_code.specs.Memory.{Memory}
use Rattle.sp_codegen.specs.Executions.{Execution}
use Rattle.sp_link.proofs.MachineStops.{AtPause, AtFork, AtOffer, AtOpen, AtFinish}
use Rattle.sp_link.proofs.MachineStops.{to_pause, to_fork, to_offer, to_open, to_finish}
use Rattle.sp_code.specs.PlainStore.{plain}
use Rattle.sp_code.specs.System.{System, Working, system_after_turn, apply_unless_fault, fault_of, event_or, event_of}
use Rattle.sp_code.specs.System.{lays, config_of}
use Rattle.sp_link.proofs.AfterEntry.{stand_again, follows_again}
use Rattle.sp_link.proofs.TurnsMeet.{Outcome_of, Kept_of, Turned_as, is_turn, turn_known}
use Rattle.sp_link.proofs.Journal.{Way_on, IsOpen, Now, now_by}
use Rattle.sp_link.proofs.OneChanges.{q, pr, runs_as_pr, light, keeps_to, linked_local}
use Rattle.sp_link.proofs.Relation.{RunContext, BirthRights, RightsOfAll, W_of, R_of, ProcessMatches, Linked, Began}
use Rattle.sp_link.proofs.Relation.{run_is, ops, execution}
use Rattle.sp_link.proofs.Relation.{AtStop}
use Rattle.sp_link.proofs.OneChanges.{opens_are, unlaid}

-- where no fault stands
pub after_no_fault : (G : RunContext) (i : ℕ) (t : Turn (Memory Plain)) (u : System Plain) → u.faulted ≡ false
    → system_after_turn plain (run_is G) i t u
    ≡ record (apply_unless_fault plain (run_is G) (fault_of G.g.limits u t) i t u)
    { births = births_after_event u.births i (event_or (fault_of G.g.limits u t) t) }
after_no_fault G i t u e = ap (λ b. record (if b then lays plain (run_is G) i (config_of t) u else
    apply_unless_fault plain (run_is G) (fault_of G.g.limits u t) i t u)
    { births = births_after_event u.births i (if b then event.Laid else event_or (fault_of G.g.limits u t) t) }) e

-- where one stands
pub after_laid : (G : RunContext) (i : ℕ) (t : Turn (Memory Plain)) (u : System Plain) → u.faulted ≡ true
    → system_after_turn plain (run_is G) i t u ≡ lays plain (run_is G) i (config_of t) u
after_laid G i t u e = ap (λ b. record (if b then lays plain (run_is G) i (config_of t) u else
    apply_unless_fault plain (run_is G) (fault_of G.g.limits u t) i t u)
    { births = births_after_event u.births i (if b then event.Laid else event_or (fault_of G.g.limits u t) t) }) e

-- a turn, and the entry that it makes on both sides
pub record Entry_of (G : RunContext) (c : JournalState) (s : StateOf G.g) (u : System Plain) (i : ℕ)
    (d : Config (Memory Plain)) :
    Type 1 where
  pub turn : Turn (Memory Plain)
  pub is_turn : IsTurn (ops G) G.code d turn
  pub way : Way_on G c s (G.births.name i) (Rattle.sp_journal.specs.Births.happening u.births
      (event_of G.g.limits u turn))
  pub speaks : IsOpen u.births (event_of G.g.limits u turn)
  pub lives : RightsOfAll G
  pub linked : Began G (system_after_turn plain (run_is G) i turn u).births
      → Now G lives way.course way.state (system_after_turn plain (run_is G) i turn u)

module _ (at_stop : AtStop) where
  open at_stop use {
    run as G,
    lives as lv,
    course as c,
    state as s,
    system as u,
    linked as l,
    number as i,
    configuration as d,
  }

  abbrev pub w : Name
  w = q at_stop

  abbrev pub p1 : Process
  p1 = pr at_stop

  abbrev pub kids : ℕ → ℕ → BirthRights
  kids k n = lv ((k, n) ∷ w)

  abbrev pub kt : Keeps_to G.g.program (W_of G lv) (R_of G lv) s.forks w p1
  kt = keeps_to at_stop

  -- the step that makes the entry, where no fault stands, and then what is left
  pub makes_step : (at t1 : StateOf G.g) (own : Process) (what : Happening) → u.faulted ≡ false
      → running_process G.g at w ≡ Some own → happening_at G.g at w own ≡ Some what → next_state G.g at w ≡ Some t1
      → (left : JournalState → StateOf G.g → ℕ → Type 0) (n : ℕ)
      → left (course_after w what (ticks_of G.g t1 w) c) t1 n → KernelStep G.g left c at false w what (1 + n)
  makes_step at t1 own what no_fault runs happens steps left n ahead = (
    l.faulted ∙ no_fault,
    record {
      unpaused = refl;
      next = t1;
      rest = n;
      size = one-add n;
      makes = record { process = own; runs = runs; happens = happens; steps = steps };
      ahead = ahead;
    },
  )

  -- the way to an entry that the next step makes, once it is known what the machine says
  abbrev pub way_of_step : (steps : ℕ) (at : StateOf G.g) → source_turn G.g G.pause (c.since w) w steps s at false
      → (what : Happening) (t1 : StateOf G.g) → ((left : JournalState → StateOf G.g → ℕ → Type 0) (n : ℕ)
      → left (with_ticks w (ticks_of G.g t1 w) c) t1 n → EntryStep G.g left c at false w what (1 + n)) → (e : Happening)
      → what ≡ e → Way_on G c s w e
  way_of_step steps at turn what t1 enters e h = record {
    unlaid = unlaid at_stop;
    steps = steps;
    source = at;
    paused = false;
    turn = turn;
    cost = 1;
    course = with_ticks w (ticks_of G.g t1 w) c;
    state = t1;
    enters = λ left n k. subst (λ f. EntryStep G.g left c at false w f (1 + n)) h (enters left n k);
  }

  -- its memory and its code stand for what it has left
  abbrev pub MatchesNow : Type 0
  MatchesNow = ProcessMatches G (lv w) kids w (c.since w) p1 s.store d

  module _ (z : MatchesNow) where
    -- how its turn ends in the meaning, and in the machine
    abbrev pub Meant : WorkOutcome source.Stop × Store → Type 0
    Meant r = Outcome_of G (lv w) kids w (c.since w) s p1 d z (runs_as_pr at_stop)
        (light at_stop)
        kt.last kt.fit r

    abbrev pub Machined : WorkOutcome source.Stop × Store → Type 0
    Machined r = Turned_as G (lv w) kids w (c.since w) s p1 d z (runs_as_pr at_stop)
        (light at_stop) kt.last kt.fit r

    -- the same by the event that the machine stops at, with its parts by name
    abbrev pub running : Execution (Memory Plain)
    running = execution G (lv w) kids w z.fresh p1.who z.named (c.since w)

    abbrev pub PausesAt : List Item → LocalState → Store → Type 0
    PausesAt todo o m = AtPause running (At z.pc z.stack z.memory) (lv w).end (lv w).below todo o m

    abbrev pub ForksAt : List Birth → List Item → LocalState → Store → Type 0
    ForksAt bs todo o m = AtFork running (At z.pc z.stack z.memory) (lv w).end (lv w).below bs todo o m

    abbrev pub OffersAt : Channel → ℕ → Payload LocationContent Address → List Item → LocalState → Store → Type 0
    OffersAt ch k cg todo o m = AtOffer running (At z.pc z.stack z.memory) (lv w).end (lv w).below ch k cg todo o m

    abbrev pub OpensAt : List Item → LocalState → Store → Type 0
    OpensAt todo o m = AtOpen running (At z.pc z.stack z.memory) (lv w).end (lv w).below todo o m

    abbrev pub EndsAt : LocalState → Store → Type 0
    EndsAt o m = AtFinish running (At z.pc z.stack z.memory) (lv w).end (lv w).below o m

    pub pauses_at : (todo : List Item) (o : LocalState) (m : Store) → Machined (Computed (source.Paused todo) o, m)
        → PausesAt todo o m
    pauses_at = to_pause running (At z.pc z.stack z.memory) (lv w).end (lv w).below

    pub forks_at : (bs : List Birth) (todo : List Item) (o : LocalState) (m : Store)
        → Machined (Computed (source.Stops (Forked bs todo)) o, m) → ForksAt bs todo o m
    forks_at = to_fork running (At z.pc z.stack z.memory) (lv w).end (lv w).below

    pub offers_at : (ch : Channel) (k : ℕ) (cg : Payload LocationContent Address) (todo : List Item) (o : LocalState)
        (m : Store) → Machined (Computed (source.Stops (Offered ch k cg todo)) o, m) → OffersAt ch k cg todo o m
    offers_at = to_offer running (At z.pc z.stack z.memory) (lv w).end (lv w).below

    pub opens_at : (todo : List Item) (o : LocalState) (m : Store)
        → Machined (Computed (source.Stops (Opened todo)) o, m) → OpensAt todo o m
    opens_at = to_open running (At z.pc z.stack z.memory) (lv w).end (lv w).below

    pub ends_at : (o : LocalState) (m : Store) → Machined (Computed (source.Stops Ended) o, m) → EndsAt o m
    ends_at = to_finish running (At z.pc z.stack z.memory) (lv w).end (lv w).below

    -- what it kept to, and what is left keeps to
    abbrev pub Kept_to : WorkOutcome source.Stop × Store → Type 0
    Kept_to r = Kept_of G (lv w) kids w (c.since w) s p1 d z (runs_as_pr at_stop)
        (light at_stop)
        kt.last kt.fit r

    pub turn_is : (t : Turn (Memory Plain)) → Turns.Runs (ops G) G.code (At z.pc z.stack z.memory) t
        → IsTurn (ops G) G.code d t
    turn_is t r = is_turn G (lv w) kids w (c.since w) s p1 d z (runs_as_pr at_stop)
        (light at_stop) kt.last kt.fit t r

    pub pausing : (todo : List Item) (o : LocalState) (m : Store) → Meant (Computed (source.Paused todo) o, m)
        → PausesAt todo o m → u.faulted ≡ false → Entry_of G c s u i d
    pausing todo o m x t no_fault = record {
      turn = tn;
      is_turn = tn_is;
      way = way_by _ (sym said);
      speaks = subst (λ b. IsOpen u.births (if b then event.Laid else event.Pause)) (sym no_fault) tt;
      lives = lv;
      linked = λ began. now_by G lv c1 x.state (system_after_turn plain (run_is G) i tn u)
          (subst (λ y. Linked G lv c1 x.state y) (sym (after_no_fault G i tn u no_fault)) linked);
    }
      where
        tn : Turn (Memory Plain)
        tn = Stopped machine.Pauses (At t.pc t.stack t.memory)

        tn_is : IsTurn (ops G) G.code d tn
        tn_is = turn_is tn (t.last, t.comes, t.stops)

        said : Rattle.sp_journal.specs.Births.happening u.births (event_of G.g.limits u tn) ≡ Is_paused
        said = ap (λ b. Rattle.sp_journal.specs.Births.happening u.births
            (if b then event.Laid else event.Pause)) no_fault

        p2 : Process
        p2 = with_todo todo p1.who o

        ticks : ticks_of G.g x.state w ≡ o.ticks
        ticks = ap ticks_in x.condition

        c1 : JournalState
        c1 = with_ticks w (ticks_of G.g x.state w) c

        since_here : c1.since w ≡ t.memory.ticks
        since_here = ap (λ b. cond b (ticks_of G.g x.state w) (c.since w)) (itself name_test w) ∙ ticks ∙ t.stand.ticks

        n1 : Memory Plain
        n1 = record (t.memory) { since = t.memory.ticks }

        stands : ProcessMatches G (lv w) kids w (c1.since w) p2 x.state.store (At t.pc t.stack n1)
        stands = subst (λ y. ProcessMatches G (lv w) kids w (c1.since w) p2 y (At t.pc t.stack n1)) (sym x.store)
            (record {
              fresh = z.fresh;
              named = z.named;
              js = t.frames;
              pc = t.pc;
              stack = t.stack;
              memory = n1;
              configuration_is = refl;
              stand = stand_again G (lv w) kids w {w = p1.who} {w1 = p1.who} {since = c.since w}
                  {since1 = c1.since w} refl since_here t.stand;
              follows = follows_again G (lv w) kids w z.fresh z.fresh p1.who p1.who z.named z.named (c.since w)
                  (c1.since w) t.pc t.stack t.frames todo t.follows;
            })

        linked : Linked G lv c1 x.state (record u {
          condition =
              at_key ◌==◌ i (Working (At t.pc t.stack n1)) u.condition;
        })
        linked = linked_local at_stop x.state c1 (Working (At t.pc t.stack n1)) u.faulted
            x.elsewhere.condition x.elsewhere.forks x.elsewhere.pending x.elsewhere.totals
            (subst (λ y. (a : Loc) → (y a ≡ s.store a) ⊎ OwnOrGiven (W_of G lv) w a) (sym x.store) x.good.stays)
            (turn_known G.g G.pause (c.since w) w x.steps s x.state true l.known x.turn) p2 x.runs
            (record { named = z.named; forked = kt.forked; last = kt.last; fit = x.good.fit })
            (λ r a. ap (λ b. cond b (ticks_of G.g x.state w) (c.since r)) (differs name_test w r (λ e. a (sym e))))
            (λ r a. refl) (λ e. e) l.faulted
            (λ e. x.elsewhere.fault ∙ l.no_fault e) l.unlaid
            (p2, x.runs, inl stands, opens_are at_stop, unlaid at_stop) (λ e. absurd (cc e))

        way_by : (e : Happening) → Is_paused ≡ e → Way_on G c s w e
        way_by e h = record {
          unlaid = unlaid at_stop;
          steps = x.steps;
          source = x.state;
          paused = true;
          turn = x.turn;
          cost = 0;
          course = c1;
          state = x.state;
          enters = λ left n y. subst (λ f. EntryStep G.g left c x.state true w f (0 + n)) h
              (l.faulted ∙ no_fault, refl, subst (λ k. left c1 x.state k) (is_none_plus n) y);
        }
