-- Along the local steps of a turn: what holds at its end and goes from a step's next state back to its first holds at
-- the beginning (`turn_folds`), what each local step keeps holds at the end (`turn_keeps`), and who makes a turn is
-- running (`turn_runs`).
use Rattle.std.proofs.Common.{◌≡◌, ℕ, zero, suc, Bool, true, false, Some, None, sym, subst}
use Rattle.sp_meaning.specs.Model.{Name}
use Rattle.sp_meaning.specs.LocalWork.{RunInput, Process}
use Rattle.sp_meaning.specs.Runs.{StateOf, running_process, next_state, happening_at}
use Rattle.sp_meaning.specs.Along.{Either, is_due_after, Turn}

module _ (g : RunInput) where
  -- P tells of a state how many local steps are still to come there
  pub turn_folds : (P : ℕ → StateOf g → Type 0) (turn since : ℕ) (q : Name) (m : StateOf g) → P zero m
      → ((i : ℕ) (z : StateOf g) (own : Process) (next : StateOf g) → running_process g z q ≡ Some own
      → happening_at g z q own ≡ None → next_state g z q ≡ Some next → P i next → P (suc i) z)
      → (k : ℕ) (s : StateOf g) (paused : Bool) → Turn g turn since q k s m paused → P k s
  turn_folds P turn since q m at_end back zero s paused turns = subst (P zero) turns.stays at_end
  turn_folds P turn since q m at_end back (suc k) s paused turns =
      back k s turns.process turns.next turns.runs turns.enters_none turns.steps
      (rest turns.next (is_due_after g turn since s turns.process q turns.next) turns.ahead
      (λ more. turn_folds P turn since q m at_end back k turns.next paused more))
    where
      rest : (next : StateOf g) (b : Bool)
          → Either b ((k ≡ 0) × (m ≡ next) × (paused ≡ true)) (Turn g turn since q k next m paused)
          → (Turn g turn since q k next m paused → P k next) → P k next
      rest next true (none_more, same_state, _) later =
          subst (λ i. P i next) (sym none_more) (subst (P zero) same_state at_end)
      rest next false more later = later more

  pub turn_keeps : (P : StateOf g → Type 0) (q : Name)
      → ((z : StateOf g) (own : Process) (next : StateOf g) → running_process g z q ≡ Some own
      → happening_at g z q own ≡ None → next_state g z q ≡ Some next → P z → P next)
      → (turn since k : ℕ) (s m : StateOf g) (paused : Bool) → Turn g turn since q k s m paused → P s → P m
  turn_keeps P q step turn since k s m paused turns = turn_folds (λ i z. P z → P m) turn since q m (λ at_end. at_end)
      (λ i z own next runs enters_none steps later at. later (step z own next runs enters_none steps at)) k s paused
      turns

  pub turn_runs : (turn since : ℕ) (q : Name) (k : ℕ) (s m : StateOf g) (paused : Bool)
      → Turn g turn since q k s m paused → (own : Process) × (running_process g s q ≡ Some own)
  turn_runs turn since q zero s m paused turns = (turns.process, turns.runs)
  turn_runs turn since q (suc k) s m paused turns = (turns.process, turns.runs)
