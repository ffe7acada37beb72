-- None of this belongs to what the program promises: it is for contracts between crates.
-- The longest lawful front of a schedule: how far a list of names leads, for any list. A law says that it is exact,
-- and rows of `run_tests` compute it.
use Rattle.std.specs.Prelude.{◌≡◌, ◌≢◌, ◌⊎◌, ℕ, suc, List, [], ◌∷◌, ◌++◌, length, Option, Some, None}
use Rattle.sp_base.specs.declared.fault.Fault.{Fault}
use Rattle.sp_meaning.specs.Model.{Name}
use Rattle.sp_meaning.specs.LocalWork.{RunInput}
use Rattle.sp_meaning.specs.Runs.{StateOf, start, next_state, Lawful}

module _ (g : RunInput) where
  -- the first of these names can make no step: there is none, a fault stands, or it is not running
  abbrev pub CannotStep : StateOf g → List Name → Type 0
  CannotStep t [] = Unit
  CannotStep t (q ∷ qs) = (t.fault ≢ None) ⊎ (next_state g t q ≡ None)

  -- from s the first n names of the schedule lead lawfully to t, and the next one can make no step
  pub record IsLongestFront (s : StateOf g) (qs : List Name) (n : ℕ) (t : StateOf g) : Type 0 where
    pub front : List Name
    pub rest : List Name
    pub whole : qs ≡ front ++ rest
    pub size : length front ≡ n
    pub leads : Lawful g s front t
    pub stops : CannotStep t rest

  -- on to the next state, if there is one and no fault stands, or else what is here
  abbrev pub go_on_or : (StateOf g → ℕ × StateOf g) → ℕ × StateOf g → Option (Name × Fault) → Option (StateOf g) → ℕ
      × StateOf g
  go_on_or go here None None = here
  go_on_or go here None (Some m) = go m
  go_on_or go here (Some f) m = here

  -- its length, and its state
  abbrev pub longest_from : List Name → ℕ → StateOf g → ℕ × StateOf g
  longest_from [] n s = (n, s)
  longest_from (q ∷ qs) n s = go_on_or (longest_from qs (suc n)) (n, s) s.fault (next_state g s q)

  -- from the opening state
  abbrev pub longest_front : List Name → ℕ × StateOf g
  longest_front qs = longest_from qs 0 (start g)
