-- Some of this belongs to what the program promises (docs/promise.txt).
-- What following a journal says of a program: the contract of `follow`. A journal is followed exactly where the meaning
-- of the program is defined along it, so that a journal which fits shows a schedule of the program itself.
use Rattle.std.specs.Prelude.{◌≡◌, ℕ, suc, ◌<◌, List, length, take, Result, Ok, Err}
use Rattle.sp_base.specs.declared.limits.TheConstants.{TURN_TICKS}
use Rattle.sp_journal.specs.declared.entry.Entry.{Entry}
use Rattle.sp_journal.specs.declared.entry.Journal.{Journal}
use Rattle.sp_journal.specs.Births.{first_births, occurrences_from, occurrences}
use Rattle.sp_meaning.specs.LocalWork.{RunInput}
use Rattle.sp_meaning.specs.Runs.{StateOf, output_of}
use Rattle.sp_meaning.specs.Along.{IsAlong}
use Rattle.sp_meaning.specs.Ends.{EndsSo}
use Rattle.sp_replay.specs.declared.replayer.Replayed.{Replayed}
use Rattle.sp_replay.specs.declared.replayer.ReplayError.{ReplayError}
use Rattle.sp_replay.specs.declared.replayer.ReplayError.TheVariants as error

-- along the journal the meaning of the program is defined; the output and the end, or that there is none, are those of
-- its state there
pub record IsFollowed (g : RunInput) (j : Journal) (r : Replayed) : Type 0 where
  pub steps : ℕ
  pub state : StateOf g
  pub along : IsAlong g TURN_TICKS (occurrences j) steps state
  pub output : r.output ≡ output_of g state
  pub end : EndsSo g state r.end

-- the meaning of the program is defined along these entries
abbrev pub IsMeant : RunInput → List Entry → Type 0
IsMeant g es = (n : ℕ) × (s : StateOf g) × IsAlong g TURN_TICKS (occurrences_from first_births es) n s

-- it is defined along the first n entries, and not with the next entry
pub record IsUnfitAt (g : RunInput) (es : List Entry) (n : ℕ) : Type 0 where
  pub inside : n < length es
  pub fits : IsMeant g (take n es)
  pub unfit : IsMeant g (take (suc n) es) → ⊥

-- what following the journal says
abbrev pub FollowsTo : RunInput → Journal → Result Replayed ReplayError → Type 0
FollowsTo g j (Ok r) = IsFollowed g j r
FollowsTo g j (Err (error.Unfit n)) = IsUnfitAt g j.entries n
FollowsTo g j (Err error.Memory) = Unit {0}
