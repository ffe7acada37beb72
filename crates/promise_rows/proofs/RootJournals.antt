-- A run in which the root alone goes on: its journal is forced, entry by entry.
use Rattle.std.proofs.Common.{◌≡◌, ℕ, zero, suc, Bool, true, false, ◌&&◌, List, [], ◌∷◌, Option, Some, None, refl}
use Rattle.std.proofs.Common.{sym, ◌∙◌}
use Rattle.std.proofs.Common.{subst}
use Rattle.std.proofs.lemmas.Option.{same_Some}
use Rattle.sp_base.proofs.Facts.{not_true_and_false}
use Rattle.sp_meaning.specs.Along.{Along, JournalState, Either, EntryStep, KernelStep, Turn, course_after, ticks_of}
use Rattle.sp_meaning.specs.Along.{is_due_after}
use Rattle.sp_meaning.specs.Entries.{Happening, Opened, Forked, Offered, Faulted, Laid, Paused, Occurrence}
use Rattle.sp_journal.specs.Names as happenings
use Rattle.sp_meaning.specs.LocalWork.{RunInput, Process}
use Rattle.sp_meaning.specs.Model.{Name}
use Rattle.sp_meaning.specs.Runs.{StateOf, happening_at, next_state, running_process}
use Rattle.sp_meaning.specs.SuperPascal.{pauses_next}
use Rattle.sp_meaning.proofs.TurnWalks.{turn_runs}

-- the process that is there
abbrev pub own_in : Option Process → Process
own_in None = record {
  todo = [];
  who = record { name = []; forks = 0; opens = 0 };
  own = record { frames = []; depth = 0; ticks = 0; cells = 0 };
}
own_in (Some own) = own

-- an option is not both
pub some_none : {A : Type 0} (X : Type 0) (o : Option A) (x : A) → o ≡ Some x → o ≡ None → X
some_none X o x e f = absurd cc

either_second : (A B : Type 0) (b : Bool) → b ≡ false → Either b A B → B
either_second A B true e x = absurd (not_true_and_false true refl e)
either_second A B false e x = x

no_and : (a b : Bool) → a ≡ false → (a && b) ≡ false
no_and true b e = absurd (not_true_and_false true refl e)
no_and false b e = refl

module _ (g : RunInput) where
  -- the root runs with this own part, and nobody else runs
  pub record RootRuns (s : StateOf g) (own : Process) : Type 0 where
    pub runs : running_process g s [] ≡ Some own
    pub alone : (a : ℕ × ℕ) (q : Name) → running_process g s (a ∷ q) ≡ None

  -- the root's next steps lead from s to this entry, and behind it to u
  pub data Leads (w : Happening) (u : StateOf g) : StateOf g → Type 0 where
    by_entry : {s : StateOf g} → (own : Process) → RootRuns s own → happening_at g s [] own ≡ Some w
        → next_state g s [] ≡ Some u → Leads w u s
    by_step : {s : StateOf g} → (own : Process) (m : StateOf g) → RootRuns s own → happening_at g s [] own ≡ None
        → pauses_next g own s.store ≡ false → next_state g s [] ≡ Some m → Leads w u m → Leads w u s

  -- a turn from s comes to a state with this entry before it
  pub record Comes (w : Happening) (u : StateOf g) (q : Name) (m : StateOf g) (paused : Bool) : Type 0 where
    pub own : Process
    pub who : q ≡ []
    pub runs : RootRuns m own
    pub makes : happening_at g m [] own ≡ Some w
    pub next : next_state g m [] ≡ Some u
    pub unpaused : paused ≡ false

  own_is : (s : StateOf g) (own x : Process) → RootRuns s own → running_process g s [] ≡ Some x → x ≡ own
  own_is s own x r e = same_Some x own (sym e ∙ r.runs)

  module _ (turn since : ℕ) where
    pub comes : (w : Happening) (u s : StateOf g) → Leads w u s → (k : ℕ) (q : Name) (t : StateOf g) (paused : Bool)
        → Turn g turn since q k s t paused → Comes w u q t paused
    comes w u s (by_entry own r h n) zero [] t paused turns =
        subst (λ m. Comes w u [] m paused) (sym turns.stays) (record {
          own = own;
          who = refl;
          runs = r;
          makes = h;
          next = n;
          unpaused = turns.unpaused;
        })
    comes w u s (by_entry own r h n) zero (a ∷ q) t paused turns =
        some_none (Comes w u (a ∷ q) t paused) (running_process g s (a ∷ q)) turns.process turns.runs (r.alone a q)
    comes w u s (by_entry own r h n) (suc k) [] t paused turns =
        some_none (Comes w u [] t paused) (happening_at g s [] own) w h
        (subst (λ z. happening_at g s [] z ≡ None) (own_is s own turns.process r turns.runs) turns.enters_none)
    comes w u s (by_entry own r h n) (suc k) (a ∷ q) t paused turns =
        some_none (Comes w u (a ∷ q) t paused) (running_process g s (a ∷ q)) turns.process turns.runs (r.alone a q)
    comes w u s (by_step own m r h d n l) zero [] t paused turns =
        some_none (Comes w u [] t paused) (happening_at g s [] own) turns.what
        (subst (λ y. happening_at g s [] y ≡ Some turns.what) (own_is s own turns.process r turns.runs) turns.happens) h
    comes w u s (by_step own m r h d n l) zero (a ∷ q) t paused turns =
        some_none (Comes w u (a ∷ q) t paused) (running_process g s (a ∷ q)) turns.process turns.runs (r.alone a q)
    comes w u s (by_step own m r h d n l) (suc k) [] t paused turns =
        comes w u m l k [] t paused
        (subst (λ z. Turn g turn since [] k z t paused) (same_Some turns.next m (sym turns.steps ∙ n))
        (either_second _ _ (is_due_after g turn since s turns.process [] turns.next)
        (no_and (pauses_next g turns.process s.store) _
        (subst (λ z. pauses_next g z s.store ≡ false) (sym (own_is s own turns.process r turns.runs)) d)) turns.ahead))
    comes w u s (by_step own m r h d n l) (suc k) (a ∷ q) t paused turns =
        some_none (Comes w u (a ∷ q) t paused) (running_process g s (a ∷ q)) turns.process turns.runs (r.alone a q)

  -- the entry is this one, and what is left goes on from u
  pub record Made (left : JournalState → StateOf g → ℕ
      → Type 0) (c : JournalState) (w what : Happening) (u : StateOf g) : Type 0
    where
      pub same : what ≡ w
      pub ticks : ℕ
      pub rest : ℕ
      pub goes_on : left (course_after [] w ticks c) u rest

  module _ (left : JournalState → StateOf g → ℕ → Type 0) (c : JournalState) (w : Happening) (u : StateOf g) where
    by_kernel : (q : Name) (m : StateOf g) (paused : Bool) → Comes w u q m paused → (what : Happening) (n : ℕ)
        → KernelStep g left c m paused q what n → Made left c w what u
    by_kernel (a ∷ q) m paused k what n h = absurd cc
    by_kernel [] m paused k what n (_, step) =
        let own : step.makes.process ≡ k.own = own_is m k.own step.makes.process k.runs step.makes.runs in
        let made : happening_at g m [] k.own ≡ Some what =
        subst (λ y. happening_at g m [] y ≡ Some what) own step.makes.happens in
        let is : what ≡ w = same_Some what w (sym made ∙ k.makes) in
        let to : step.next ≡ u = same_Some step.next u (sym step.makes.steps ∙ k.next) in
        record {
          same = is;
          ticks = ticks_of g u [];
          rest = step.rest;
          goes_on = subst (λ x. left (course_after [] w (ticks_of g x []) c) x step.rest) to
              (subst (λ y. left (course_after [] y (ticks_of g step.next []) c) step.next step.rest) is step.ahead);
        }

    pub made : (q : Name) (m : StateOf g) (paused : Bool) → Comes w u q m paused → c.faulted ≡ false
        → (what : Happening) (n : ℕ)
        → EntryStep g left c m paused q what n → Made left c w what u
    made q m paused k f Laid n h = absurd (not_true_and_false c.faulted h.0 f)
    made q m paused k f Paused n h = absurd (not_true_and_false paused h.1 k.unpaused)
    made q m paused k f (Forked count) n h = by_kernel q m paused k (Forked count) n h
    made q m paused k f Opened n h = by_kernel q m paused k Opened n h
    made q m paused k f (Offered way ch) n h = by_kernel q m paused k (Offered way ch) n h
    made q m paused k f happenings.Ended n h = by_kernel q m paused k happenings.Ended n h
    made q m paused k f (Faulted x) n h = by_kernel q m paused k (Faulted x) n h

  -- the journal goes on with this entry, and then from u
  pub record GoesOn (turn : ℕ) (c : JournalState) (w : Happening) (u : StateOf g) (e : Occurrence)
      (es : List Occurrence)
      (t : StateOf g) : Type 0 where
    pub who : e.who ≡ []
    pub what : e.what ≡ w
    pub ticks : ℕ
    pub rest : ℕ
    pub along : Along g turn (course_after [] w ticks c) u es rest t

  pub forced : (turn : ℕ) (c : JournalState) (w : Happening) (u s : StateOf g) → Leads w u s → c.faulted ≡ false
      → (e : Occurrence) (es : List Occurrence) (n : ℕ) (t : StateOf g) → Along g turn c s (e ∷ es) n t
      → GoesOn turn c w u e es t
  forced turn c w u s l f e es n t a =
      let k : Comes w u e.who a.middle a.paused =
      comes turn (c.since e.who) w u s l a.steps e.who a.middle a.paused a.turns in
      let h = made (λ c1 v r. Along g turn c1 v es r t) c w u e.who a.middle a.paused k f e.what a.rest a.enters in
      record { who = k.who; what = h.same; ticks = h.ticks; rest = h.rest; along = h.goes_on }

  -- where nobody runs, no entry follows
  pub over : (turn : ℕ) (c : JournalState) (s : StateOf g) → ((q : Name) → running_process g s q ≡ None)
      → (e : Occurrence)
      (es : List Occurrence) (n : ℕ) (t : StateOf g) → Along g turn c s (e ∷ es) n t → ⊥
  over turn c s idle e es n t a =
      let run = turn_runs g turn (c.since e.who) e.who a.steps s a.middle a.paused a.turns in
      some_none ⊥ (running_process g s e.who) run.0 run.1 (idle e.who)
