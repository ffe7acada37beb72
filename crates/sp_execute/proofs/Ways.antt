-- Fronts of a run along a journal, and that the state says what the next entry of a process is.
use Rattle.std.proofs.Common.{◌≡◌, ℕ, suc, ◌+◌, Bool, true, false, List, [], ◌∷◌, ◌++◌, Option, Some, None, refl}
use Rattle.std.proofs.Common.{sym, ap, ◌∙◌, subst}
use Rattle.std.proofs.lemmas.List.{append-nil}
use Rattle.std.proofs.lemmas.Option.{same_Some}
use Rattle.sp_meaning.specs.Model.{Name}
use Rattle.sp_meaning.specs.LocalWork.{RunInput, Process}
use Rattle.sp_meaning.specs.Entries.{Happening, Opened, Forked, Offered, Faulted, Laid, Paused, Occurrence}
use Rattle.sp_journal.specs.Names as happenings
use Rattle.sp_meaning.specs.Runs.{StateOf, running_process, happening_at}
use Rattle.sp_meaning.specs.Along.{JournalState, with_fault, with_ticks, course_after, ticks_of, KernelStep}
use Rattle.sp_meaning.specs.Along.{EntryStep}
use Rattle.sp_meaning.specs.Along.{Along}
use Rattle.sp_meaning.proofs.TurnWalks.{turn_runs}
use Rattle.sp_link.proofs.OneState.{turn_one}

module _ (g : RunInput) (turn : ℕ) where
  -- the front of a journal, and that the process of the entry after it runs
  pub record Front (c : JournalState) (s : StateOf g) (xs : List Occurrence) (q : Name) : Type 0 where
    pub steps : ℕ
    pub state : StateOf g
    pub along : Along g turn c s xs steps state
    pub own : Process
    pub runs : running_process g state q ≡ Some own

  -- an entry in front of a front
  record FrontEntry (xs : List Occurrence) (r : Name) (c : JournalState) (m : StateOf g) (p : Bool) (q : Name)
      (what : Happening) :
      Type 0 where
    state : StateOf g
    count : ℕ
    entered : EntryStep g (λ c1 v k. Along g turn c1 v xs k state) c m p q what count
    own : Process
    runs : running_process g state r ≡ Some own

  module _ (xs : List Occurrence) (r : Name) (left : JournalState → StateOf g → ℕ → Type 0)
      (go : (c1 : JournalState) (u : StateOf g) (k : ℕ) → left c1 u k
      → Front c1 u xs r) (c : JournalState) (m : StateOf g)
      (p : Bool) (q : Name) where
    -- of a kernel step, which is the entry's step
    kernel : (what : Happening) (n : ℕ) → KernelStep g left c m p q what n
        → ((state : StateOf g) (count : ℕ)
        → KernelStep g (λ c1 v k. Along g turn c1 v xs k state) c m p q what count
        → EntryStep g (λ c1 v k. Along g turn c1 v xs k state) c m p q what count) → FrontEntry xs r c m p q what
    kernel what n (quiet, k) is_entry =
        let x = go (course_after q what (ticks_of g k.next q) c) k.next k.rest k.ahead in
        record {
          state = x.state;
          count = suc x.steps;
          entered = is_entry x.state (suc x.steps) (
            quiet,
            record {
              unpaused = k.unpaused;
              next = k.next;
              rest = x.steps;
              size = refl;
              makes = k.makes;
              ahead = x.along;
            },
          );
          own = x.own;
          runs = x.runs;
        }

    entry : (what : Happening) (n : ℕ) → EntryStep g left c m p q what n → FrontEntry xs r c m p q what
    entry Laid n h = let x = go (with_fault q c) m n h.1 in
        record { state = x.state; count = x.steps; entered = (h.0, x.along); own = x.own; runs = x.runs }
    entry Paused n h = let x = go (with_ticks q (ticks_of g m q) c) m n h.2 in
        record { state = x.state; count = x.steps; entered = (h.0, h.1, x.along); own = x.own; runs = x.runs }
    entry (Forked k) n h = kernel (Forked k) n h (λ state count step. step)
    entry Opened n h = kernel Opened n h (λ state count step. step)
    entry (Offered w d) n h = kernel (Offered w d) n h (λ state count step. step)
    entry happenings.Ended n h = kernel happenings.Ended n h (λ state count step. step)
    entry (Faulted f) n h = kernel (Faulted f) n h (λ state count step. step)

  pub front : (xs : List Occurrence) (o : Occurrence) (ys : List Occurrence) (c : JournalState) (s : StateOf g) (n : ℕ)
      (t : StateOf g) → Along g turn c s (xs ++ o ∷ ys) n t → Front c s xs o.who
  front [] o ys c s n t a =
      let r = turn_runs g turn (c.since o.who) o.who a.steps s a.middle a.paused a.turns in
      record { steps = 0; state = s; along = (refl, refl); own = r.0; runs = r.1 }
  front (x ∷ xs) o ys c s n t a =
      let e = entry xs o.who (λ c1 v r. Along g turn c1 v (xs ++ o ∷ ys) r t) (λ c1 u k h. front xs o ys c1 u k t h) c
      a.middle a.paused x.who x.what a.rest a.enters in
      record {
        steps = a.steps + e.count;
        state = e.state;
        along = record {
          not_laid = a.not_laid;
          steps = a.steps;
          rest = e.count;
          middle = a.middle;
          paused = a.paused;
          size = refl;
          turns = a.turns;
          enters = e.entered;
        };
        own = e.own;
        runs = e.runs;
      }

  -- the front with the next entry
  pub along_front : (xs ys : List Occurrence) (c : JournalState) (s : StateOf g) (n : ℕ) (t : StateOf g)
      → Along g turn c s (xs ++ ys) n t → (k : ℕ) × (u : StateOf g) × Along g turn c s xs k u
  along_front xs [] c s n t a = (n, t, subst (λ z. Along g turn c s z n t) (append-nil xs) a)
  along_front xs (o ∷ ys) c s n t a = let f = front xs o ys c s n t a in (f.steps, f.state, f.along)

  -- what a process's next entry says, by the state
  said_by : Option Process → StateOf g → Name → Option Happening
  said_by None m q = None
  said_by (Some own) m q = happening_at g m q own

  abbrev pick : Bool → Bool → Option Happening → Option Happening
  pick true p w = Some Laid
  pick false true w = Some Paused
  pick false false w = w

  module _ (left : JournalState → StateOf g → ℕ → Type 0) (c : JournalState) (m : StateOf g) (p : Bool) (q : Name) where
    kernel_says : (what : Happening) (n : ℕ) → KernelStep g left c m p q what n
        → Some what ≡ pick c.faulted p (said_by (running_process g m q) m q)
    unfolding said_by
    kernel_says what n (quiet, k) = sym k.makes.happens ∙ ap (λ o. said_by o m q) (sym k.makes.runs)
        ∙ (λ i. pick (sym quiet i) (sym k.unpaused i) (said_by (running_process g m q) m q))

    entry_says : (what : Happening) (n : ℕ) → EntryStep g left c m p q what n
        → Some what ≡ pick c.faulted p (said_by (running_process g m q) m q)
    entry_says Laid n h = ap (λ b. pick b p (said_by (running_process g m q) m q)) (sym h.0)
    entry_says Paused n h = λ i. pick (sym h.0 i) (sym h.1 i) (said_by (running_process g m q) m q)
    entry_says (Forked k) n h = kernel_says (Forked k) n h
    entry_says Opened n h = kernel_says Opened n h
    entry_says (Offered w d) n h = kernel_says (Offered w d) n h
    entry_says happenings.Ended n h = kernel_says happenings.Ended n h
    entry_says (Faulted f) n h = kernel_says (Faulted f) n h

  -- two ways on after one entry
  module _ (A : Type 0) (left right : JournalState → StateOf g → ℕ
      → Type 0) (c : JournalState) (m : StateOf g) (p : Bool)
      (q : Name) (go : (c1 : JournalState) (u : StateOf g) (n k : ℕ) → left c1 u n → right c1 u k → A) where
    kernel_two : (what : Happening) (n k : ℕ) → KernelStep g left c m p q what n → KernelStep g right c m p q what k → A
    kernel_two what n k (_, one) (_, two) =
        let same_next : two.next ≡ one.next = same_Some two.next one.next (sym two.makes.steps ∙ one.makes.steps) in
        go (course_after q what (ticks_of g one.next q) c) one.next one.rest two.rest one.ahead
        (subst (λ y. right (course_after q what (ticks_of g y q) c) y two.rest) same_next two.ahead)

    entered_two : (what : Happening) (n k : ℕ) → EntryStep g left c m p q what n → EntryStep g right c m p q what k → A
    entered_two Laid n k h i = go (with_fault q c) m n k h.1 i.1
    entered_two Paused n k h i = go (with_ticks q (ticks_of g m q) c) m n k h.2 i.2
    entered_two (Forked j) n k h i = kernel_two (Forked j) n k h i
    entered_two Opened n k h i = kernel_two Opened n k h i
    entered_two (Offered w d) n k h i = kernel_two (Offered w d) n k h i
    entered_two happenings.Ended n k h i = kernel_two happenings.Ended n k h i
    entered_two (Faulted f) n k h i = kernel_two (Faulted f) n k h i

  -- the next entry of one process is one
  pub next_one : (xs : List Occurrence) (q : Name) (a b : Happening) (c : JournalState) (s : StateOf g) (n k : ℕ)
      (t v : StateOf g) → Along g turn c s (xs ++ record { who = q; what = a } ∷ []) n t
      → Along g turn c s (xs ++ record { who = q; what = b } ∷ []) k v → a ≡ b
  next_one [] q a b c s n k t v one two =
      let z = turn_one g turn (c.since q) q two.steps one.steps s two.middle one.middle two.paused one.paused two.turns
      one.turns in
      let says_one = entry_says (λ c1 u r. Along g turn c1 u [] r t) c one.middle one.paused q a one.rest one.enters in
      let says_two = entry_says (λ c1 u r. Along g turn c1 u [] r v) c two.middle two.paused q b two.rest two.enters in
      let same : pick c.faulted two.paused (said_by (running_process g two.middle q) two.middle q)
      ≡ pick c.faulted one.paused (said_by (running_process g one.middle q) one.middle q) =
      λ j. pick c.faulted (z.paused j) (said_by (running_process g (z.state j) q) (z.state j) q) in
      same_Some a b (says_one ∙ sym (says_two ∙ same))
  next_one (x ∷ xs) q a b c s n k t v one two =
      let z = turn_one g turn (c.since x.who) x.who two.steps one.steps s two.middle one.middle two.paused one.paused
      two.turns one.turns in
      let right : JournalState → StateOf g → ℕ → Type 0 =
      λ c1 u r. Along g turn c1 u (xs ++ record { who = q; what = b } ∷ []) r v in
      let at : EntryStep g right c one.middle one.paused x.who x.what two.rest =
      subst (λ y. EntryStep g right c one.middle y x.who x.what two.rest) z.paused
      (subst (λ y. EntryStep g right c y two.paused x.who x.what two.rest) z.state two.enters) in
      entered_two (a ≡ b) (λ c1 u r. Along g turn c1 u (xs ++ record { who = q; what = a } ∷ []) r t) right c one.middle
      one.paused x.who (λ c1 u r d y w. next_one xs q a b c1 u r d t v y w) x.what one.rest two.rest one.enters at
