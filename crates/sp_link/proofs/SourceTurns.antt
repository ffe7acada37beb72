-- The run of a turn of one process, as the simulation of its code has it, is its local steps in the state of the
-- meaning: up to the moment at which it is due (`Pauses`), or to its next kernel step (`Comes_to`). `P` is what local
-- steps keep.
use Rattle.std.proofs.Common.{◌≡◌, ◌⊎◌, inl, inr, ℕ, zero, suc, ◌+◌, List, Some, None, Bool, true, false, ◌&&◌}
use Rattle.std.proofs.Common.{if◌then◌else◌, refl, sym, ap, ◌∙◌, subst}
use Rattle.std.specs.Prelude.{◌≢◌, nat_le}
use Rattle.sp_meaning.specs.Model.{Name, Works}
use Rattle.sp_meaning.specs.EffectTree.{run_tree, tree_writes}
use Rattle.sp_meaning.specs.Steps.{ActOf, step_outcome, own_part_in}
use Rattle.sp_meaning.specs.Entries.{Happening}
use Rattle.sp_meaning.specs.LocalWork.{RunInput, LocalState, Item, Process, WorkOutcome, Computed, EndsInFault}
use Rattle.sp_meaning.specs.LocalWork.{IllFormed, OutOfFuel, same_loc, give}
use Rattle.sp_meaning.specs.Actions.{Action, Stepped, Ticked, Opened, Forked, Offered, Ended}
use Rattle.sp_meaning.specs.SuperPascal.{superpascal, act_tree, action_of, act_of, with_todo, is_pausing}
use Rattle.sp_meaning.specs.Run.{Store, run}
use Rattle.sp_meaning.specs.Runs.{StateOf, total_limits, running_process, next_state, happening_at, happening_of}
use Rattle.sp_meaning.specs.Along.{Either, ticks_in, ticks_of, is_due_after, Turn}
use Rattle.sp_meaning.specs.Turn as source
use Rattle.sp_meaning.proofs.Keys.{name_test}
use Rattle.sp_meaning.proofs.Maps.{at_same, at_other}
use Rattle.sp_meaning.proofs.LocalSteps.{moved, local_step, pausing_step}
use Rattle.sp_meaning.proofs.StepLaws.{next_is}
use Rattle.sp_meaning.proofs.Run.{then_run, run_bind}
use Rattle.sp_codegen.specs.TurnAgrees.{due_after}

-- P: what local steps keep
module _ (g : RunInput) (q : Name) (pause since : ℕ) (P : Process → Store → Type 0)
    (keeps : (pr : Process) (s : Store) → P pr s → (todo : List Item) (o : LocalState) (m : Store) (d : Action)
    → ◌≡◌ {A = WorkOutcome Action × Store} (run_tree same_loc (action_of g pr) s) (Computed d o, m) → (d ≡ Stepped todo)
    ⊎ (d ≡ Ticked todo) → P (with_todo todo pr.who o) m) where
  abbrev is_due : LocalState → Bool
  is_due o = due_after since pause o

  -- all but q's own condition and the store
  pub record Elsewhere (s t : StateOf g) : Type 0 where
    pub condition : (r : Name) → r ≢ q → t.condition r ≡ s.condition r
    pub forks : t.forks ≡ s.forks
    pub pending : t.pending ≡ s.pending
    pub totals : t.totals ≡ s.totals
    pub fault : t.fault ≡ s.fault

  pub nowhere : (s : StateOf g) → Elsewhere s s
  nowhere s = record { condition = λ r d. refl; forks = refl; pending = refl; totals = refl; fault = refl }

  pub elsewhere_on : {s t u : StateOf g} → Elsewhere s t → Elsewhere t u → Elsewhere s u
  elsewhere_on a b = record {
    condition = λ r d. b.condition r d ∙ a.condition r d;
    forks = b.forks ∙ a.forks;
    pending = b.pending ∙ a.pending;
    totals = b.totals ∙ a.totals;
    fault = b.fault ∙ a.fault;
  }

  moved_elsewhere : (s : StateOf g) (pr : Process) (m : Store) → Elsewhere s (moved g s q pr m)
  moved_elsewhere s pr m = record {
    condition = λ r d. at_other name_test s.condition q r (Works pr) (λ e. d (sym e));
    forks = refl;
    pending = refl;
    totals = refl;
    fault = refl;
  }

  moved_runs : (s : StateOf g) (pr : Process) (m : Store) → running_process g (moved g s q pr m) q ≡ Some pr
  moved_runs s pr m = ap (λ c. own_part_in (moved g s q pr m).condition q c)
      (at_same name_test s.condition q (Works pr))

  moved_ticks : (s : StateOf g) (pr : Process) (m : Store) → ticks_of g (moved g s q pr m) q ≡ pr.own.ticks
  moved_ticks s pr m = ap ticks_in (at_same name_test s.condition q (Works pr))

  -- local steps of q lead from s to t, where it has pr left to do and its next step does what r says
  pub record Comes_to (s : StateOf g) (pr : Process) (r : WorkOutcome Action × Store) : Type 0 where
    pub steps : ℕ
    pub state : StateOf g
    pub left : Process
    pub elsewhere : Elsewhere s state
    pub runs : running_process g state q ≡ Some left
    pub who_is : left.who ≡ pr.who
    pub good : P left state.store
    pub does : ◌≡◌ {A = WorkOutcome Action × Store} (run_tree same_loc (action_of g left) state.store) r
    pub turn : (what : Happening) → happening_at g state q left ≡ Some what → Turn g pause since q steps s state false

  -- or to the first moment at which it is due
  pub record Pauses (s : StateOf g) (pr : Process) (todo : List Item) (o : LocalState) (m : Store) : Type 0 where
    pub steps : ℕ
    pub state : StateOf g
    pub elsewhere : Elsewhere s state
    pub runs : running_process g state q ≡ Some (with_todo todo pr.who o)
    pub condition : state.condition q ≡ Works (with_todo todo pr.who o)
    pub store : state.store ≡ m
    pub good : P (with_todo todo pr.who o) m
    pub turn : Turn g pause since q steps s state true

  abbrev pub Outcome : StateOf g → Process → WorkOutcome source.Stop × Store → Type 0
  Outcome s pr (Computed (source.Paused todo) o, m) = Pauses s pr todo o m
  Outcome s pr (Computed (source.Stops d) o, m) = Comes_to s pr (Computed d o, m)
  Outcome s pr (EndsInFault f, m) = Comes_to s pr (EndsInFault f, m)
  Outcome s pr (IllFormed, m) = Unit {0}
  Outcome s pr (OutOfFuel, m) = Unit {0}

  -- a local step says nothing
  says_none : (s : StateOf g) (pr : Process) (todo : List Item) (o : LocalState) (m : Store) (d : Action)
      → ◌≡◌ {A = WorkOutcome Action × Store} (run_tree same_loc (action_of g pr) s.store) (Computed d o, m)
      → (d ≡ Stepped todo)
      ⊎ (d ≡ Ticked todo) → happening_at g s q pr ≡ None
  says_none s pr todo o m d e k =
      ap (λ (a : ActOf (superpascal g)). happening_of a (step_outcome (total_limits g) s q a))
      (next_is g pr s.store ∙ ap (λ (x : WorkOutcome Action × Store). act_of pr.who x.0
      (tree_writes same_loc (act_tree g pr) s.store)) e) ∙ by k
    where
      act : Action → ActOf (superpascal g)
      act x = act_of pr.who (Computed x o) (tree_writes same_loc (act_tree g pr) s.store)

      by : (d ≡ Stepped todo) ⊎ (d ≡ Ticked todo)
          → happening_of (act d) (step_outcome (total_limits g) s q (act d)) ≡ None
      by (inl h) = ap (λ x. happening_of (act x) (step_outcome (total_limits g) s q (act x))) h
      by (inr h) = ap (λ x. happening_of (act x) (step_outcome (total_limits g) s q (act x))) h

  -- one step in front
  front : (s : StateOf g) (pr : Process) → running_process g s q ≡ Some pr
      → (todo : List Item) (o : LocalState) (m : Store) (d : Action)
      → ◌≡◌ {A = WorkOutcome Action × Store} (run_tree same_loc (action_of g pr) s.store) (Computed d o, m)
      → (d ≡ Stepped todo)
      ⊎ (d ≡ Ticked todo)
      → next_state g s q ≡ Some (moved g s q (with_todo todo pr.who o) m) → (b : Bool)
      → is_pausing (Computed d o) && is_due o ≡ b
      → (n : ℕ) (at : StateOf g) (paused : Bool)
      → Either b ((n ≡ 0) × (at ≡ moved g s q (with_todo todo pr.who o) m) × (paused ≡ true))
      (Turn g pause since q n (moved g s q (with_todo todo pr.who o) m) at paused)
      → Turn g pause since q (suc n) s at paused
  front s pr e todo o m d er k st b eb n at paused h = record {
    process = pr;
    runs = e;
    enters_none = says_none s pr todo o m d er k;
    next = moved g s q (with_todo todo pr.who o) m;
    steps = st;
    ahead = subst (λ z. Either z ((n ≡ 0) × (at ≡ moved g s q (with_todo todo pr.who o) m) × (paused ≡ true))
        (Turn g pause since q n (moved g s q (with_todo todo pr.who o) m) at paused)) (sym due_is) h;
  }
    where
      due_is : is_due_after g pause since s pr q (moved g s q (with_todo todo pr.who o) m) ≡ b
      due_is = ap (λ (x : WorkOutcome Action × Store). is_pausing x.0
          && nat_le (since + pause) (ticks_of g (moved g s q (with_todo todo pr.who o) m) q)) er
          ∙ ap (λ z. is_pausing (Computed d o) && nat_le (since + pause) z)
          (moved_ticks s (with_todo todo pr.who o) m) ∙ eb

  -- a step that does not end the turn
  after : (s : StateOf g) (pr : Process) → running_process g s q ≡ Some pr
      → (todo : List Item) (o : LocalState) (m : Store) (d : Action)
      → ◌≡◌ {A = WorkOutcome Action × Store} (run_tree same_loc (action_of g pr) s.store) (Computed d o, m)
      → (d ≡ Stepped todo)
      ⊎ (d ≡ Ticked todo)
      → next_state g s q ≡ Some (moved g s q (with_todo todo pr.who o) m) → is_pausing (Computed d o) && is_due o
      ≡ false
      → (r : WorkOutcome source.Stop × Store) → Outcome (moved g s q (with_todo todo pr.who o) m)
      (with_todo todo pr.who o) r
      → Outcome s pr r
  after s pr e todo o m d er k st eb (Computed (source.Paused left) o1, m1) h =
      record {
        steps = suc h.steps;
        state = h.state;
        elsewhere = elsewhere_on (moved_elsewhere s (with_todo todo pr.who o) m) h.elsewhere;
        runs = h.runs;
        condition = h.condition;
        store = h.store;
        good = h.good;
        turn = front s pr e todo o m d er k st false eb h.steps h.state true h.turn;
      }
  after s pr e todo o m d er k st eb (Computed (source.Stops x) o1, m1) h =
      record {
        steps = suc h.steps;
        state = h.state;
        left = h.left;
        elsewhere = elsewhere_on (moved_elsewhere s (with_todo todo pr.who o) m) h.elsewhere;
        runs = h.runs;
        who_is = h.who_is;
        good = h.good;
        does = h.does;
        turn = λ what y. front s pr e todo o m d er k st false eb h.steps h.state false (h.turn what y);
      }
  after s pr e todo o m d er k st eb (EndsInFault f, m1) h =
      record {
        steps = suc h.steps;
        state = h.state;
        left = h.left;
        elsewhere = elsewhere_on (moved_elsewhere s (with_todo todo pr.who o) m) h.elsewhere;
        runs = h.runs;
        who_is = h.who_is;
        good = h.good;
        does = h.does;
        turn = λ what y. front s pr e todo o m d er k st false eb h.steps h.state false (h.turn what y);
      }
  after s pr e todo o m d er k st eb (IllFormed, m1) h = tt
  after s pr e todo o m d er k st eb (OutOfFuel, m1) h = tt

  comes_now : (s : StateOf g) (pr : Process) → P pr s.store → running_process g s q ≡ Some pr
      → (r : WorkOutcome Action × Store)
      → ◌≡◌ {A = WorkOutcome Action × Store} (run_tree same_loc (action_of g pr) s.store) r → Comes_to s pr r
  comes_now s pr x e r er = record {
    good = x;
    steps = 0;
    state = s;
    left = pr;
    elsewhere = nowhere s;
    runs = e;
    who_is = refl;
    does = er;
    turn = λ what h. record {
      stays = refl;
      unpaused = refl;
      process = pr;
      runs = e;
      what = what;
      happens = h;
    };
  }

  -- the run of a turn
  pub turns : (k : ℕ) (s : StateOf g) (pr : Process) → P pr s.store → running_process g s q ≡ Some pr
      → Outcome s pr (run (source.turn g is_due k pr.todo) pr.who pr.own s.store)
  turns zero s pr x e = tt
  turns (suc k) s pr x e =
      subst (Outcome s pr) (sym (run_bind (source.turn_step g is_due pr.todo)
      (source.rest_of_turn g is_due (source.turn g is_due k)) pr.who pr.own s.store))
      (go (λ s1 pr1 y h. turns k s1 pr1 y h) (run (source.turn_step g is_due pr.todo) pr.who pr.own s.store) refl)
    where
      go : ((s1 : StateOf g) (pr1 : Process) → P pr1 s1.store → running_process g s1 q ≡ Some pr1
          → Outcome s1 pr1 (run (source.turn g is_due k pr1.todo) pr1.who pr1.own s1.store))
          → (r : WorkOutcome Action × Store)
          → ◌≡◌ {A = WorkOutcome Action × Store} (run_tree same_loc (action_of g pr) s.store) r
          → Outcome s pr (then_run (source.rest_of_turn g is_due (source.turn g is_due k)) pr.who r)
      go ih (Computed (Stepped todo) o, m) er =
          let pr1 = with_todo todo pr.who o in
          after s pr e todo o m (Stepped todo) er (inl refl) (local_step g s q pr todo o m e er) refl
          (run (source.turn g is_due k todo) pr.who o m)
          (ih (moved g s q pr1 m) pr1 (keeps pr s.store x todo o m (Stepped todo) er (inl refl))
          (moved_runs s pr1 m))
      go ih (Computed (Ticked todo) o, m) er = by_due (is_due o) refl
        where
          pr1 : Process
          pr1 = with_todo todo pr.who o

          st : next_state g s q ≡ Some (moved g s q pr1 m)
          st = pausing_step g s q pr todo o m e er

          by_due : (b : Bool) → is_due o ≡ b
              → Outcome s pr (run (if b then give (source.Paused todo) else source.turn g is_due k todo) pr.who o m)
          by_due true eb = record {
            steps = 1;
            state = moved g s q pr1 m;
            elsewhere = moved_elsewhere s pr1 m;
            runs = moved_runs s pr1 m;
            condition = at_same name_test s.condition q (Works pr1);
            store = refl;
            good = keeps pr s.store x todo o m (Ticked todo) er (inr refl);
            turn = front s pr e todo o m (Ticked todo) er (inr refl) st true eb 0 (moved g s q pr1 m) true
                (refl, refl, refl);
          }
          by_due false eb = after s pr e todo o m (Ticked todo) er (inr refl) st eb
              (run (source.turn g is_due k todo) pr.who o m)
              (ih (moved g s q pr1 m) pr1 (keeps pr s.store x todo o m (Ticked todo) er (inr refl))
              (moved_runs s pr1 m))
      go ih (Computed (Opened todo) o, m) er = comes_now s pr x e (Computed (Opened todo) o, m) er
      go ih (Computed (Forked bs todo) o, m) er = comes_now s pr x e (Computed (Forked bs todo) o, m) er
      go ih (Computed (Offered c y payload todo) o, m) er =
          comes_now s pr x e (Computed (Offered c y payload todo) o, m) er
      go ih (Computed Ended o, m) er = comes_now s pr x e (Computed Ended o, m) er
      go ih (EndsInFault f, m) er = comes_now s pr x e (EndsInFault f, m) er
      go ih (IllFormed, m) er = tt
      go ih (OutOfFuel, m) er = tt
