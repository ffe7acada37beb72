-- Some of this belongs to what the program promises (docs/promise.txt).
-- The way of a run along a journal: the states between its entries, with the ticks that each entry fixes. The
-- headline of a run, the judge's promises and `sp_link` go by it, since a journal alone says how far each process
-- went. The ticks that a process had made at its last entry are those after the operands of that step, functions
-- called there included.
use Rattle.std.specs.Prelude.{◌≡◌, ℕ, zero, suc, ◌+◌, Bool, true, false, cond, ◌&&◌, ◌||◌, if◌then◌else◌, nat_le, List}
use Rattle.std.specs.Prelude.{[], ◌∷◌, Some, None}
use Rattle.sp_meaning.specs.Model.{Name, Condition, Absent, Works, Waits, Joins, Ended, same_name}
use Rattle.sp_meaning.specs.LocalWork.{RunInput, LocationContent, Address, Process}
use Rattle.sp_meaning.specs.SuperPascal.{pauses_next}
use Rattle.sp_meaning.specs.Entries.{Happening, Faulted, Laid, Paused, Occurrence, is_fault}
use Rattle.sp_meaning.specs.Runs.{StateOf, start, running_process, next_state, happening_at}

-- the first where the test holds, and else the second
abbrev pub Either : Bool → Type 0 → Type 0 → Type 0
Either true A B = A
Either false A B = B

-- the ticks that a process has made, whatever it does
abbrev pub ticks_in : Condition Process LocationContent Address → ℕ
ticks_in Absent = 0
ticks_in (Works own) = own.own.ticks
ticks_in (Waits o) = o.next.own.ticks
ticks_in (Joins fork count next_state) = next_state.own.ticks
ticks_in Ended = 0

-- what is kept beside the state: each process's ticks at its last entry, whether a fault stands, and who is laid
pub record JournalState : Type 0 where
  pub since : Name → ℕ
  pub faulted : Bool
  pub laid : Name → Bool

-- before the first entry
abbrev pub before_entries : JournalState
before_entries = record { since = λ q. 0; faulted = false; laid = λ q. false }

-- the process's ticks at this entry
abbrev pub with_ticks : Name → ℕ → JournalState → JournalState
with_ticks q n c = record c { since = λ r. cond (same_name q r) n (c.since r) }

-- a fault stands, and who met it is laid
abbrev pub with_fault : Name → JournalState → JournalState
with_fault q c = record c { faulted = true; laid = λ r. same_name q r || c.laid r }

-- an entry notes its process's ticks; who faults is laid from there on
abbrev pub course_after : Name → Happening → ℕ → JournalState → JournalState
course_after q what n c = if is_fault what then with_fault q (with_ticks q n c) else with_ticks q n c

module _ (g : RunInput) where
  -- the ticks of a process in a state
  abbrev pub ticks_of : StateOf g → Name → ℕ
  ticks_of s q = ticks_in (s.condition q)

  -- after this step of q from s to t, q is due: the step paused, and q has made so many ticks since its last entry
  abbrev pub is_due_after : ℕ → (since : ℕ) → StateOf g → Process → Name → StateOf g → Bool
  is_due_after turn since s own q t = pauses_next g own s.store && nat_le (since + turn) (ticks_of t q)

  -- q makes no local step: t is s, q has not paused, and its next step is a kernel step
  pub record TurnEnd (q : Name) (s t : StateOf g) (paused : Bool) : Type 0 where
    pub stays : t ≡ s
    pub unpaused : paused ≡ false
    pub process : Process
    pub runs : running_process g s q ≡ Some process
    pub what : Happening
    pub happens : happening_at g s q process ≡ Some what

  -- q makes a local step at s, with n more to come. If q is then due, there are none: t is the next state, and q has
  -- paused. If not, Rest says how the turn goes on from the next state
  pub record LocalStep (turn since : ℕ) (q : Name) (n : ℕ) (s t : StateOf g) (paused : Bool)
      (Rest : StateOf g → Type 0) : Type 0 where
    pub process : Process
    pub runs : running_process g s q ≡ Some process
    pub enters_none : happening_at g s q process ≡ None
    pub next : StateOf g
    pub steps : next_state g s q ≡ Some next
    pub ahead : Either (is_due_after turn since s process q next) ((n ≡ 0) × (t ≡ next) × (paused ≡ true)) (Rest next)

  -- n local steps of q lead from s to t: up to the first moment at which it is due, or its next step is a kernel step
  abbrev pub Turn : ℕ → ℕ → Name → ℕ → StateOf g → StateOf g → Bool → Type 0
  Turn turn since q zero s t paused = TurnEnd q s t paused
  Turn turn since q (suc n) s t paused = LocalStep turn since q n s t paused (λ m. Turn turn since q n m t paused)

  -- the entry's step at s: it makes this entry
  pub record MakesEntry (s : StateOf g) (q : Name) (what : Happening) (t : StateOf g) : Type 0 where
    pub process : Process
    pub runs : running_process g s q ≡ Some process
    pub happens : happening_at g s q process ≡ Some what
    pub steps : next_state g s q ≡ Some t

  -- a kernel step of q at m, where q is not due: it makes the entry and leads to the next state. It is one of n steps,
  -- and left says how it goes on by the rest
  pub record KernelEntry (left : JournalState → StateOf g → ℕ → Type 0) (c : JournalState) (m : StateOf g)
      (paused : Bool) (q : Name) (what : Happening) (n : ℕ) : Type 0 where
    pub unpaused : paused ≡ false
    pub next : StateOf g
    pub rest : ℕ
    pub size : n ≡ suc rest
    pub makes : MakesEntry m q what next
    pub ahead : left (course_after q what (ticks_of next q) c) next rest

  -- a kernel step: only where no fault stands, and where the process is not due
  abbrev pub KernelStep : (JournalState → StateOf g → ℕ → Type 0) → JournalState → StateOf g → Bool → Name → Happening
      → ℕ → Type 0
  KernelStep left c m paused q what n = (c.faulted ≡ false) × KernelEntry left c m paused q what n

  -- what the entry's process does after its local steps, which led to m, and what is then left. Laid comes only after a
  -- fault
  abbrev pub EntryStep : (JournalState → StateOf g → ℕ → Type 0) → JournalState → StateOf g → Bool → Name → Happening
      → ℕ → Type 0
  EntryStep left c m paused q Laid n = (c.faulted ≡ true) × left (with_fault q c) m n
  EntryStep left c m paused q Paused n = (c.faulted ≡ false) × (paused ≡ true)
      × left (with_ticks q (ticks_of m q) c) m n
  EntryStep left c m paused q what n = KernelStep left c m paused q what n

  -- the entry e from s on: its process is not laid. It makes local steps up to a middle state, and there the entry. All
  -- steps are n, and left says how it goes on after the entry
  pub record AlongEntry (turn : ℕ) (c : JournalState) (s : StateOf g) (e : Occurrence) (n : ℕ)
      (left : JournalState → StateOf g → ℕ → Type 0) : Type 0 where
    pub not_laid : c.laid e.who ≡ false
    pub steps : ℕ
    pub rest : ℕ
    pub middle : StateOf g
    pub paused : Bool
    pub size : n ≡ steps + rest
    pub turns : Turn turn (c.since e.who) e.who steps s middle paused
    pub enters : EntryStep left c middle paused e.who e.what rest

  -- the entries in order lead from s to t by n steps in all, where a process pauses after so many ticks
  abbrev pub Along : ℕ → JournalState → StateOf g → List Occurrence → ℕ → StateOf g → Type 0
  Along turn c s [] n t = (n ≡ 0) × (t ≡ s)
  Along turn c s (e ∷ es) n t = AlongEntry turn c s e n (λ c1 u r. Along turn c1 u es r t)

  -- along a journal from the start
  abbrev pub IsAlong : ℕ → List Occurrence → ℕ → StateOf g → Type 0
  IsAlong turn es n t = Along turn before_entries (start g) es n t

-- no entry is Fault or Laid
abbrev pub IsCleanly : Happening → Type 0
IsCleanly (Faulted f) = ⊥
IsCleanly Laid = ⊥
IsCleanly _ = Unit

-- no process faults or is laid
abbrev pub IsClean : List Occurrence → Type 0
IsClean [] = Unit
IsClean (e ∷ es) = IsCleanly e.what × IsClean es
