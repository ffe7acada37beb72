-- All of this belongs to what the program promises (docs/promise.txt).
-- The runs of a program: its opening state, its steps, its lawful schedules, and the entry that a step makes. All
-- contracts on meaning begin here: the model and the language put together, for the input of a run.
use Rattle.std.specs.Prelude.{ℕ, List, length, Option, Some, None}
use Rattle.sp_meaning.specs.Model.{Name, Totals, Language, Moves, Opens, Forks, Offering, EndsProcess, MeetsFault}
use Rattle.sp_meaning.specs.Model.{State}
use Rattle.sp_meaning.specs.Steps.{own_part, way_of, ActOf, step_outcome, ActOutcome, Advances, Faulty, step}
use Rattle.sp_meaning.specs.Steps.{process_system, opening_state}
use Rattle.sp_meaning.specs.Schedules.{System, ScheduleLeads}
use Rattle.sp_meaning.specs.Disjoint.{IsDisjoint}
use Rattle.sp_meaning.specs.LocalWork.{RunInput, Output, Process, bytes_in}
use Rattle.sp_meaning.specs.SuperPascal.{superpascal, root, first_store}
use Rattle.sp_meaning.specs.Entries.{Happening, Opened, Forked, Offered, Ended, Faulted}

-- the limits of the totals
abbrev pub total_limits : RunInput → Totals
total_limits g = record { processes = g.limits.processes; channels = g.limits.channels; entries = g.limits.entries }

-- the states of a run on this input
abbrev pub StateOf : RunInput → Type 0
StateOf g = State (superpascal g)

-- the opening state: the root alone, nothing read or written
abbrev pub start : (g : RunInput) → StateOf g
start g = opening_state (superpascal g) (root g) (first_store g)

-- the own part of a process that is running
abbrev pub running_process : (g : RunInput) → StateOf g → Name → Option Process
running_process g s q = own_part s q

-- the next state when q steps, or none where q is unknown, waits, joins or has ended
abbrev pub next_state : (g : RunInput) → StateOf g → Name → Option (StateOf g)
next_state g s q = step (total_limits g) s q

-- the system of processes of a run
abbrev pub system_of : RunInput → System
system_of g = process_system (superpascal g) (total_limits g)

-- these names are a lawful schedule from s, and t is its state
abbrev pub Lawful : (g : RunInput) → StateOf g → List Name → StateOf g → Type 0
Lawful g s qs t = ScheduleLeads (system_of g) s qs t

-- what the entry of a step says, or none where the step is local
abbrev pub happening_of : {L : Language} → ActOf L → ActOutcome L → Option Happening
happening_of a (Faulty f) = Some (Faulted f)
happening_of (Moves next_state ws) (Advances cs) = None
happening_of (Opens next_state ws) (Advances cs) = Some Opened
happening_of (Forks next_state os) (Advances cs) = Some (Forked (length os))
happening_of (Offering o) (Advances cs) = Some (Offered (way_of o.payload) o.channel)
happening_of EndsProcess (Advances cs) = Some Ended
happening_of (MeetsFault f) (Advances cs) = None

abbrev pub happening_at : (g : RunInput) → StateOf g → Name → Process → Option Happening
happening_at g s q own =
    happening_of ((superpascal g).next own s.store)
    (step_outcome (total_limits g) s q ((superpascal g).next own s.store))

-- the bytes written
abbrev pub output_of : (g : RunInput) → StateOf g → List ℕ
output_of g s = bytes_in (s.store Output)

-- in no schedule of the program on this input with these limits does a process write what a parallel one uses
abbrev pub IsDisjointRun : RunInput → Type 0
IsDisjointRun g = IsDisjoint (superpascal g) (total_limits g) (start g)
