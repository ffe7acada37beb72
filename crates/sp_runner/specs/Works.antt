-- None of this belongs to what the program promises: it is for contracts between crates.
-- What a worker's loop keeps, and what is left once all workers have left. The contracts of `worker` and `runner` cite
-- it; a worker knows its own notes and what it has seen, and nothing of the others.
use Rattle.std.specs.Prelude.{◌≡◌, ◌⊎◌, ◌<◌, ◌≤◌, ℕ, List, [], ◌∷◌, Option, None, false}
use Rattle.std.specs.Option.{option_map}
use Rattle.sp_base.specs.declared.limits.Limits.{Limits}
use Rattle.sp_journal.specs.declared.entry.Note.{Note}
use Rattle.sp_code.specs.declared.code.Parts.{Parts}
use Rattle.sp_code.specs.Control.{control}
use Rattle.sp_code.specs.Agreement.{IsOver}
use Rattle.sp_code.specs.WorkerHistory.{OneByOne}
use Rattle.sp_machine.specs.declared.state.State.{State as Proc}
use Rattle.sp_kernel.specs.declared.handed.Handed.{Handed}
use Rattle.sp_kernel.specs.declared.kernel.Kernel.{Kernel}
use Rattle.sp_kernel.specs.declared.ask.Ask.{Ask}
use Rattle.sp_kernel.specs.Asks.{IsOpening, MayAsk, is_abandon, given_by}
use Rattle.sp_kernel.specs.Closes.{RanTo}
use Rattle.sp_runner.specs.Runs.{notes_of_worker}

-- the room was opened for a run of this code with these limits
pub record IsRunOf (x : Kernel) (parts : Parts) (lim : Limits) : Type 0 where
  pub opening : IsOpening x
  pub code : x.code.value ≡ parts
  pub limits : x.limits ≡ lim

-- the own notes are those of the seat in what it has seen
abbrev pub AreOwnNotes : List Note → List Note → ℕ → Type 0
AreOwnNotes seen own w = notes_of_worker w seen ≡ own

-- the process that a refused ask held
abbrev pub refused_process : Option Handed → Option Proc
refused_process refused = option_map (λ h. h.proc) refused

-- what the last of these notes got; o, where there is none
abbrev pub last_got : Option ℕ → List Note → Option ℕ
last_got o [] = o
last_got o (n ∷ ns) = last_got n.got ns

-- each of the own notes gives what the one before it got, and the next ask gives what the last one got
abbrev pub IsNextAsk : List Note → Ask → Type 0
IsNextAsk own a = OneByOne None own × (last_got None own ≡ given_by a)

-- the next ask may be made, and is no last one
pub record MayWork (x : Kernel) (w : ℕ) (seen own : List Note) (a : Ask) : Type 0 where
  pub asks : MayAsk x w seen own a
  pub more : is_abandon a ≡ false
  pub next : IsNextAsk own a

-- what a worker that has left has seen: the run is over, or a worker gave up
abbrev pub LeftAfter : List Note → Type 0
LeftAfter seen = IsOver (control seen) ⊎ (0 < (control seen).abandons)

-- the run of x by so many workers came to its end after these notes, and no worker gave up
pub record RanBy (workers : ℕ) (x : Kernel) (log : List Note) (y : Kernel) : Type 0 where
  pub ran : RanTo x log y
  pub kept : y.abandons ≡ 0
  pub calls : (w : ℕ) → w < workers → OneByOne None (notes_of_worker w log)
  pub others : (w : ℕ) → workers ≤ w → notes_of_worker w log ≡ []
