-- Some of this belongs to what the program promises (docs/promise.txt).
-- Schedules of a system of named processes, and what it means that each of them ends alike. A verdict's promise is
-- said by it, over any system, so that it is read without the language.
use Rattle.std.specs.Prelude.{◌≡◌, ℕ, ◌≤◌, List, [], ◌∷◌, ◌++◌, length, Option, Some, None}

-- A system: the next state when this process steps, or none where it can't; and whether no fault stands
pub record System : Type 1 where
  pub State : Type 0
  pub Name : Type 0
  pub step : State → Name → Option State
  pub HasNoFault : State → Type 0

-- From s, the schedule is lawful and leads to t: each name can step in the state before it, and no fault stands there
abbrev pub ScheduleLeads : (y : System) → y.State → List y.Name → y.State → Type 0
ScheduleLeads y s [] t = t ≡ s
ScheduleLeads y s (p ∷ ps) t = (m : y.State) × y.HasNoFault s × (y.step s p ≡ Some m) × ScheduleLeads y m ps t

-- no process can step
abbrev pub IsStuck : (y : System) → y.State → Type 0
IsStuck y t = (p : y.Name) → y.step t p ≡ None

-- A schedule that leads from s to u ends as a run of n steps to t does: it is no longer than n, meets no fault, and is
-- the front of a lawful one of length n that leads to t
pub record EndsAlike (y : System) (s : y.State) (n : ℕ) (t : y.State) (qs : List y.Name) (u : y.State) : Type 0 where
  pub bounded : length qs ≤ n
  pub no_fault : y.HasNoFault u
  pub rest : List y.Name
  pub full : length (qs ++ rest) ≡ n
  pub goes_on : ScheduleLeads y u rest t
