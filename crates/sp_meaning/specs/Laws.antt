-- None of this belongs to what the program promises: it is for contracts between crates.
-- What holds of every state that a lawful schedule leads to: names, ticks, what nobody writes. The laws of the meaning
-- promise it, so that what is above needs no look at steps.
use Rattle.std.specs.Prelude.{◌≡◌, ◌≢◌, ◌⊎◌, ℕ, ◌≤◌, List, Some}
use Rattle.sp_meaning.specs.Model.{Name, Channel, Condition, Absent, Works, Waits, Joins, Ended}
use Rattle.sp_meaning.specs.EffectTree.{run_tree}
use Rattle.sp_meaning.specs.LocalWork.{RunInput, Loc, LocationContent, Address, Process, OutOfFuel, same_loc}
use Rattle.sp_meaning.specs.Steps.{WaitsOn}
use Rattle.sp_meaning.specs.Disjoint.{WritesIn}
use Rattle.sp_meaning.specs.SuperPascal.{superpascal, action_of}
use Rattle.sp_meaning.specs.Runs.{StateOf, start, running_process, Lawful}
use Rattle.sp_meaning.specs.Along.{ticks_of}

-- a process's own part has its name and its count of forks
pub record HasIdentity (q : Name) (forks : ℕ) (pr : Process) : Type 0 where
  pub name : pr.who.name ≡ q
  pub forks_are : pr.who.forks ≡ forks

-- and so in whatever condition it is
abbrev pub OwnIs : Name → ℕ → Condition Process LocationContent Address → Type 0
OwnIs q forks Absent = forks ≡ 0
OwnIs q forks (Works pr) = HasIdentity q forks pr
OwnIs q forks (Waits o) = HasIdentity q forks o.next
OwnIs q forks (Joins k n pr) = HasIdentity q forks pr
OwnIs q forks Ended = Unit

module _ (g : RunInput) where
  -- a lawful schedule leads from the start to this state
  abbrev pub IsReached : StateOf g → Type 0
  IsReached s = (qs : List Name) × Lawful g (start g) qs s

  -- the step of a process that is running does not run out of its bound
  abbrev pub IsBounded : StateOf g → Name → Type 0
  IsBounded s q = (pr : Process) → running_process g s q ≡ Some pr → (run_tree same_loc (action_of g pr) s.store).0 ≢
      OutOfFuel

  -- it has ended, or its ticks have not fallen
  abbrev pub HasNotFallen : StateOf g → StateOf g → Name → Type 0
  HasNotFallen s t q = (t.condition q ≡ Ended) ⊎ (ticks_of g s q ≤ ticks_of g t q)

  -- nobody writes it in the step of p at s
  abbrev pub IsUnwritten : StateOf g → Name → Loc → Type 0
  IsUnwritten s p l = (own : Process) → running_process g s p ≡ Some own → (who : Name)
      → WritesIn {L = superpascal g} s p own who l → ⊥

  -- it is running, or waits for a message
  abbrev pub IsAlone : StateOf g → Name → Type 0
  IsAlone s p = ((own : Process) × (running_process g s p ≡ Some own)) ⊎ ((c : Channel) × WaitsOn c (s.condition p))
