-- Some of this belongs to what the program promises (docs/promise.txt).
-- What a verdict promises of a run along a journal: the law of this crate, and a part of the contract of `execute`. An
-- ordered run ends alike in every schedule; the other verdicts promise no more than they say.
use Rattle.std.specs.Prelude.{ℕ, List}
use Rattle.sp_journal.specs.declared.outcome.End.{End}
use Rattle.sp_journal.specs.declared.outcome.Verdict.{Verdict}
use Rattle.sp_journal.specs.declared.outcome.Verdict.TheVariants as verdict
use Rattle.sp_journal.specs.Names.{Name, Occurrence}
use Rattle.sp_meaning.specs.LocalWork.{RunInput}
use Rattle.sp_meaning.specs.Runs.{StateOf, start, system_of, Lawful}
use Rattle.sp_meaning.specs.Schedules.{EndsAlike}
use Rattle.sp_race.specs.Races.{IsVerdict}

-- every lawful schedule has at most n names, meets no fault, and is the front of one with n names that leads to t
abbrev pub AllEndAlike : (g : RunInput) → ℕ → StateOf g → Type 0
AllEndAlike g n t = (qs : List Name) (u : StateOf g) → Lawful g (start g) qs u
    → EndsAlike (system_of g) (start g) n t qs u

-- the verdict on a run of n steps to t, along this journal and with this end: an ordered run ends alike in every
-- schedule
abbrev pub IsRunVerdict : (g : RunInput) → List Occurrence → ℕ → StateOf g → End → Verdict → Type 0
IsRunVerdict g es n t e verdict.Ordered = IsVerdict es e verdict.Ordered × AllEndAlike g n t
IsRunVerdict g es n t e (verdict.Race w c i k) = IsVerdict es e (verdict.Race w c i k)
IsRunVerdict g es n t e verdict.Unjudged = IsVerdict es e verdict.Unjudged
