-- Each process of the machine stands beside its own of the meaning, by the relation that the run keeps.
use Rattle.std.proofs.Common.{◌≡◌, inl, inr, ⊎_elim, ℕ, List, [], ◌∷◌, Some, None, Bool, true, false}
use Rattle.std.proofs.Common.{if◌then◌else◌, nat_lt, refl, sym, ap, ◌∙◌, subst, arith}
use Rattle.std.proofs.lemmas.Option.{same_Some}
use Rattle.std.specs.FinMap as fin
use Rattle.std.specs.Prelude.{decimal}
use Rattle.sp_base.specs.declared.fault.Fault.{Fault}
use Rattle.sp_base.specs.declared.limits.Limits.{Limits}
use Rattle.sp_base.specs.Names.{channel_text}
use Rattle.sp_tree.specs.Plain.{Program, Stmt}
use Rattle.sp_tree.specs.PlainChecked as c
use Rattle.sp_journal.specs.Births.{births, channel, first_births, occurrences_from, NameableFrom}
use Rattle.sp_journal.specs.Names.{Channel, Name, chan_name}
use Rattle.sp_journal.specs.declared.entry.Entry.{Entry}
use Rattle.sp_cell.specs.declared.spot.Spot.{Spot}
use Rattle.sp_cell.specs.Map.{Away, Plain}
use Rattle.sp_code.specs.Machine.{At, Config, Fails, next_step}
use Rattle.sp_code.specs.Machine.{Entry as Entry_of}
use Rattle.sp_code.specs.Memory.{CodeRun, Memory, memory}
use Rattle.sp_code.specs.PlainStore.{plain}
use Rattle.sp_code.specs.System.{System}
use Rattle.sp_code.specs.Turns.{BeginsOrFaults, Faulted, Runs, RunsTo, frames_fit}
use Rattle.sp_code.specs.System as sys
use Rattle.sp_codegen.specs.FramePairs.{FramePair, machines, sources}
use Rattle.sp_codegen.proofs.Turn.{turn_meets}
use Rattle.sp_codegen.specs.CodePositions.{StandsFor, Turned}
use Rattle.sp_codegen.specs.MemoryRelation.{Paired}
use Rattle.sp_codegen.specs.TurnAgrees.{due_after}
use Rattle.sp_lines.specs.declared.mark.Mark.{Mark}
use Rattle.sp_link.proofs.Journal.{Goes_along, has_number}
use Rattle.sp_link.proofs.OneState.{one_state}
use Rattle.sp_link.proofs.Programs.{ground}
use Rattle.sp_link.proofs.Relation.{Called, Joined, Linked, Named, Performs_all, ProcessMatches, R_of, RunContext, W_of}
use Rattle.sp_link.proofs.Relation.{Rel, at_open, execution, ops}
use Rattle.sp_link.proofs.Soundness.{names_on}
use Rattle.sp_link.proofs.Theorem.{linked_along}
use Rattle.sp_link.specs.Premises.{AreAlong, run_by}
use Rattle.sp_meaning.proofs.RightsInvariant.{ConditionInRights, Keeps_to}
use Rattle.sp_meaning.proofs.Rights.{OwnLocation, OwnOrGiven}
use Rattle.sp_meaning.specs.Along.{before_entries}
use Rattle.sp_meaning.specs.LocalWork.{Address, EndsInFault, Loc, LocationContent, Process, RunInput}
use Rattle.sp_meaning.specs.Model.{Absent, Payload, Ended, Joins, Message, Takes, Waits, Works}
use Rattle.sp_meaning.specs.Rights.{MayTake}
use Rattle.sp_meaning.specs.Run.{Store, run as run_on}
use Rattle.sp_meaning.specs.Runs.{StateOf, start}
use Rattle.sp_meaning.specs.Turn as source
use Rattle.sp_meaning.specs.Steps.{all_ended, own_part_in}
use Rattle.sp_where.specs.Values.{cell_channel_text}
use Rattle.sp_where.proofs.Frames.{AreHeld, frames_agree}
use Rattle.sp_where.proofs.Rights.{left_read}
use Rattle.sp_where.specs.Truth.{FaultStands, FaultsStand, GoesTo, HasMemory, IsWaitedFor}
use Rattle.sp_where.specs.Truth.{MayRead, ProcessStands, Situation, known_of}
use Rattle.sp_where.specs.Truth.{process_in, run_of}

-- ---- the process in a condition of the meaning

-- one that is running
own_is_process : (m : Name → Situation) (q : Name)
    (x : Situation) (pr : Process) → own_part_in m q x ≡ Some pr
    → process_in x ≡ Some pr
own_is_process m q Absent pr e = e
own_is_process m q (Works o) pr e = e
own_is_process m q (Waits o) pr e = absurd (cc e)
own_is_process m q (Joins k n o) pr e = go (all_ended m q k n) e
  where
    go : (b : Bool) → (if b then Some o else None) ≡ Some pr → Some o ≡ Some pr
    go true e = e
    go false e = absurd (cc e)
own_is_process m q Ended pr e = e

-- its rights
kept : (p : Program) (W R : Name → Loc → Type 0) (f : Name → ℕ) (q : Name)
    (x : Situation) (pr : Process) → ConditionInRights p W R f q x
    → process_in x ≡ Some pr → Keeps_to p W R f q pr
kept p W R f q Absent pr h e = absurd (cc e)
kept p W R f q (Works o) pr h e = subst (Keeps_to p W R f q) (same_Some o pr e) h
kept p W R f q (Waits o) pr h e = subst (Keeps_to p W R f q) (same_Some o.next pr e) h.0
kept p W R f q (Joins k n o) pr h e = subst (Keeps_to p W R f q) (same_Some o pr e) h
kept p W R f q Ended pr h e = absurd (cc e)

-- what it waits for
waited : (p : Program) (W R : Name → Loc → Type 0) (f : Name → ℕ) (q : Name) (x : Situation)
    → ConditionInRights p W R f q x → (l : Loc) → IsWaitedFor x l → OwnOrGiven W q l
waited p W R f q Absent h l u = absurd u
waited p W R f q (Works o) h l u = absurd u
waited p W R f q (Waits o) h l u = go o.payload h.1 u
  where
    go : (k : Payload LocationContent Address) → MayTake p (OwnOrGiven W q) (OwnOrGiven R q) k → GoesTo k l
        → OwnOrGiven W q l
    go (Message v) m u = absurd u
    go (Takes a) m u = subst (OwnOrGiven W q) u m
waited p W R f q (Joins k n o) h l u = absurd u
waited p W R f q Ended h l u = absurd u

module _ (tree : c.Program) (input : List ℕ) (limits : Limits) (moves shares : Stmt → List ℕ) (pause : ℕ)
    (es : List Entry) (t : System Plain) (n : ℕ) (s : StateOf (run_of tree input limits))
    (a : AreAlong (run_of tree input limits) moves shares pause es t n s) (constants : List (List (List ℕ)))
    (marks : List Mark) where
  abbrev g : RunInput
  g = run_of tree input limits

  abbrev run : CodeRun
  run = run_by g moves shares pause

  can_be_named : NameableFrom first_births es
  can_be_named = names_on g moves shares pause a.ready es t a.system

  abbrev G : RunContext
  G = at_open (ground g moves shares pause a.ready es can_be_named) t.births.channels

  along : Goes_along (ground g moves shares pause a.ready es can_be_named) before_entries (start g) first_births es t
  along = linked_along (ground g moves shares pause a.ready es can_be_named) a.ready.main a.ready.first es can_be_named
      refl t a.system

  linked : Linked G along.lives along.course s t
  linked = subst (λ y. Linked G along.lives along.course y t)
      (one_state g pause (occurrences_from first_births es) along.steps n along.state s along.along a.program).1
      along.linked

  -- the number of a channel is written as its name
  channel_named : (d : Channel) (j : ℕ) → Named G d j → cell_channel_text (births es) j ≡ channel_text (chan_name d)
  channel_named d j h =
      let inside = h.1 in
      let there : nat_lt j (births es).channels ≡ true = Prim.grind (arith, inside) in
      ap (λ b. if b then channel_text (chan_name (channel (births es) j)) else decimal j) there
      ∙ ap (λ y. channel_text (chan_name y)) h.2

  abbrev name : ℕ → Name
  name i = (births es).name i

  abbrev W : ℕ → Loc → Type 0
  W i l = OwnOrGiven (W_of G along.lives) (name i) l

  abbrev R : ℕ → Loc → Type 0
  R i l = OwnOrGiven (R_of G along.lives) (name i) l

  -- what may be written may be read
  reads : (i : ℕ) (l : Loc) → W i l → R i l
  reads i l = ⊎_elim (λ o. inl o) (λ w. inr (linked.rights.fair.reads (name i) l w))

  may_read : (i : ℕ) (pr : Process) → process_in (s.condition (name i)) ≡ Some pr → (l : Loc)
      → MayRead g.program (name i) (s.condition (name i)) pr l → R i l
  may_read i pr e l (inl o) = inl o
  may_read i pr e l (inr (inr u)) = reads i l (waited g.program (W_of G along.lives) (R_of G along.lives) s.forks
      (name i)
      (s.condition (name i)) (linked.rights.holds (name i)) l u)
  may_read i pr e l (inr (inl u)) = left_read g.program (W i) (R i) (reads i) pr.own.frames pr.todo
      (kept g.program (W_of G along.lives) (R_of G along.lives) s.forks (name i) (s.condition (name i)) pr
      (linked.rights.holds (name i)) e).fit.ready l u

  abbrev IsTrue_of : ℕ → Bool → Memory Plain → Type 0
  IsTrue_of i joins m = ProcessStands (known_of tree moves shares es constants marks) g (name i) (s.condition (name i))
      s.store m joins

  stands : (i : ℕ) (joins : Bool) (pr : Process) → process_in (s.condition (name i)) ≡ Some pr → (k : Memory Plain)
      (js : List FramePair) → pr.own.frames ≡ sources js → k.frames ≡ machines js
      → Paired g.program (Called G) js → AreHeld g.program (Named G) (R i) s.store k.store.map js
      → (joins ≡ false → (spot : Spot) → fin.get k.store.map spot ≡ Some Away → ⊥) → IsTrue_of i joins k
  stands i joins pr e k js left right paired held unaway = record {
    process = pr;
    process_is = e;
    agree = frames_agree tree input limits moves shares es constants marks a.ready.formed G.laid (Named G) (Called G)
        (R i) channel_named (λ q j h. sym h.1) s.store k js paired held
        (MayRead g.program (name i) (s.condition (name i)) pr) joins unaway (may_read i pr e) pr.own.frames left right;
  }

  -- one that runs, or waits
  matches : (i : ℕ) (pr : Process) → process_in (s.condition (name i)) ≡ Some pr → (d : Config (Memory Plain))
      → ProcessMatches G (along.lives (name i)) (λ k j. along.lives ((k, j) ∷ name i)) (name i)
      (along.course.since (name i)) pr s.store d → (pc : ℕ) (stack : List Entry_of)
      (k m : Memory Plain) → d ≡ At pc stack k → k ≡ m → (joins : Bool) → joins ≡ false → IsTrue_of i joins m
  matches i pr e d z pc stack k m d_is k_is joins none =
      let same : k ≡ z.memory = cc (sym d_is ∙ z.configuration_is) in
      subst (λ y. IsTrue_of i joins y) (sym same ∙ k_is)
      (stands i joins pr e z.memory z.js z.stand.frames.sources_are z.stand.frames.machines_are z.stand.frames.paired
      (λ q h x l r. (let y = z.stand.held q h x l r in
      inr (record { tree = y.tree; tree_is = y.tree_is; cells = y.cells; piece = y.piece; flat = y.flat })))
      (λ f spot. z.stand.unaway spot))

  -- one that joins
  joined : (i : ℕ) (fork count left : ℕ) (pr : Process) → process_in (s.condition (name i)) ≡ Some pr
      → (d : Config (Memory Plain))
      → Joined G (along.lives (name i)) (λ k j. along.lives ((k, j) ∷ name i)) (name i)
      (along.course.since (name i)) fork count left pr s d → (pc : ℕ)
      (stack : List Entry_of) (k m : Memory Plain) → d ≡ At pc stack k → k ≡ m
      → (joins : Bool) → joins ≡ true → IsTrue_of i joins m
  joined i fork count left pr e d z pc stack k m d_is k_is joins some =
      let now : Memory Plain = record (z.memory) { store = Rattle.sp_cell.specs.Map.with_map z.memory.store z.held } in
      let same : k ≡ now = cc (sym d_is ∙ z.configuration_is) in
      subst (λ y. IsTrue_of i joins y) (sym same ∙ k_is)
      (stands i joins pr e now z.js z.joining.before.frames.sources_are z.joining.before.frames.machines_are
      z.joining.before.frames.paired
      (λ q h x l r. ⊎_elim (λ y. inl (z.gone y.0 y.1 _ y.2))
      (λ y. inr (record { tree = y.tree; tree_is = y.tree_is; cells = y.cells; piece = y.piece; flat = y.flat }))
      (z.joining.held q h x l r))
      (λ f. absurd (let w : false ≡ true = sym f ∙ some in cc w)))

  -- each process that has the memory
  pub process_is_true : (i : ℕ) (joins : Bool) (m : Memory Plain) (x : sys.Condition Plain) → t.condition i ≡ x
      → HasMemory run x joins m → IsTrue_of i joins m
  process_is_true i joins m sys.Absent e h = absurd h
  process_is_true i joins m (sys.Working (At pc stack k)) e h =
      let there = has_number G along.lives along.course s t linked i (sys.Working (At pc stack k)) e
      (λ z. absurd (cc z)) in
      let y : Performs_all G along.lives (name i) along.course s (t.births.opens i) (sys.Working (At pc stack k)) =
      subst (λ z. Performs_all G along.lives (name i) along.course s (t.births.opens i) z) e (linked.does i there) in
      ⊎_elim
      (λ z. matches i y.0 (own_is_process s.condition (name i) (s.condition (name i)) y.0 y.1) (At pc stack k) z pc
      stack k m refl h.1 joins h.0)
      (λ z. absurd (let w : false ≡ true = sym z.no_room ∙ h.2 in cc w)) y.2
  process_is_true i joins m (sys.Waits stop (At pc stack k)) e h =
      let there = has_number G along.lives along.course s t linked i (sys.Waits stop (At pc stack k)) e
      (λ z. absurd (cc z)) in
      let y : Performs_all G along.lives (name i) along.course s (t.births.opens i) (sys.Waits stop (At pc stack k)) =
      subst (λ z. Performs_all G along.lives (name i) along.course s (t.births.opens i) z) e (linked.does i there) in
      matches i y.0.next (ap process_in y.1) (At pc stack k) y.2 pc stack k m refl h.1 joins h.0
  process_is_true i joins m (sys.Joins left (At pc stack k)) e h =
      let there = has_number G along.lives along.course s t linked i (sys.Joins left (At pc stack k)) e
      (λ z. absurd (cc z)) in
      let y : Performs_all G along.lives (name i) along.course s (t.births.opens i) (sys.Joins left (At pc stack k)) =
      subst (λ z. Performs_all G along.lives (name i) along.course s (t.births.opens i) z) e (linked.does i there) in
      let (fork, count, own, joining, stood, _, _) = y in
      joined i fork count left own (ap process_in joining) (At pc stack k) stood pc stack k m refl h.1 joins h.0
  process_is_true i joins m (sys.Laid d) e h = absurd h
  process_is_true i joins m sys.Gone e h = absurd h
  process_is_true i joins m (sys.Over d) e h = absurd h

  -- ---- at a fault

  abbrev FaultIs : ℕ → Config (Memory Plain) → Fault → Store → Type 0
  FaultIs i d f r = FaultStands (known_of tree moves shares es constants marks) g run (name i) d f r

  faulted : (i : ℕ) (pr : Process) (d : Config (Memory Plain))
      → (z : ProcessMatches G (along.lives (name i)) (λ k j. along.lives ((k, j) ∷ name i)) (name i)
      (along.course.since (name i)) pr s.store d) → frames_fit (ops G) G.code d ≡ true → (k : ℕ) (f : Fault)
      (s1 : Store)
      → run_on (source.turn g (due_after (along.course.since (name i)) pause) k pr.todo) pr.who pr.own s.store
      ≡ (EndsInFault f, s1) → FaultIs i d f s1
  faulted i pr d z fits k f s1 e =
      let lf = along.lives (name i) in
      let ex = execution G lf (λ k j. along.lives ((k, j) ∷ name i)) (name i) z.fresh pr.who z.named
      (along.course.since (name i)) in
      let h : Turned ex (At z.pc z.stack z.memory) lf.end [] lf.below (EndsInFault f, s1) =
      subst (Turned ex (At z.pc z.stack z.memory) lf.end [] lf.below) e
      (turn_meets ex G.blocks lf.end [] lf.below z.fresh.ends refl k pr.todo z.pc z.stack z.js pr.own s.store z.memory
      z.stand z.follows) in
      by h.configuration h.comes h.fails h.stands
    where
      by : (x : Config (Memory Plain)) → RunsTo (ops G) G.code (At z.pc z.stack z.memory) x
          → next_step (ops G) G.code x ≡ Fails f
          → StandsFor (Rel G (along.lives (name i)) (λ k j. along.lives ((k, j) ∷ name i)) (name i) pr.who
          (along.course.since (name i))) x s1 → FaultIs i d f s1
      by (At pc stack m) comes fails h = record {
        pc = pc;
        stack = stack;
        memory = m;
        ends = subst (λ b. BeginsOrFaults b d (Faulted f (At pc stack m))
            (Runs (ops G) G.code d (Faulted f (At pc stack m)))) (sym fits) (
              At pc stack m,
              subst (λ y. RunsTo (ops G) G.code y (At pc stack m)) (sym z.configuration_is) comes,
              (fails, refl),
            );
        own = h.1;
        agree = frames_agree tree input limits moves shares es constants marks a.ready.formed G.laid (Named G)
            (Called G)
            (R i) channel_named (λ q j y. sym y.1) s1 m h.0 h.2.frames.paired
            (λ q j x l r. (let y = h.2.held q j x l r in
            inr (record { tree = y.tree; tree_is = y.tree_is; cells = y.cells; piece = y.piece; flat = y.flat })))
            (OwnLocation (name i)) false (λ y spot. h.2.unaway spot) (λ l o. inl o) h.1.frames
            h.2.frames.sources_are h.2.frames.machines_are;
      }

  pub faults_are_true : (i : ℕ) (d : Config (Memory Plain)) → t.condition i ≡ sys.Working d
      → frames_fit (memory plain run) run.code d ≡ true
      → FaultsStand (known_of tree moves shares es constants marks) g run (name i) (s.condition (name i)) s.store d
  faults_are_true i d e fits =
      let there = has_number G along.lives along.course s t linked i (sys.Working d) e (λ z. absurd (cc z)) in
      let y : Performs_all G along.lives (name i) along.course s (t.births.opens i) (sys.Working d) =
      subst (λ z. Performs_all G along.lives (name i) along.course s (t.births.opens i) z) e (linked.does i there) in
      record {
        process = y.0;
        process_is = own_is_process s.condition (name i) (s.condition (name i)) y.0 y.1;
        since = along.course.since (name i);
        faults = λ k f s1 r. ⊎_elim (λ z. faulted i y.0 d z fits k f s1 r)
            (λ z. absurd (let w : false ≡ true = sym z.no_room ∙ fits in cc w)) y.2;
      }
