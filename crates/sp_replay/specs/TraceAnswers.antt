-- Some of this belongs to what the program promises (docs/promise.txt).
-- What following a journal tells of it, and the state behind its last entry: the contracts of `replay_told` and
-- `FollowedRun::seen`.
use Rattle.std.specs.Prelude.{ℕ, List, Option, Some, None, Result, Ok, Err, slice_get}
use Rattle.sp_cell.specs.Map.{Plain}
use Rattle.sp_journal.specs.declared.entry.Entry.{Entry}
use Rattle.sp_code.specs.Memory.{CodeRun}
use Rattle.sp_code.specs.PlainStore.{plain}
use Rattle.sp_code.specs.System.{System, Condition, Absent, Gone, IsSystem}
use Rattle.sp_code.specs.OutputHolder.{IsOutputOf}
use Rattle.sp_lines.specs.EntryPlaces.{DescribesEntries}
use Rattle.sp_kernel.specs.Kernels.{system_of}
use Rattle.sp_replay.specs.declared.replayer.Replayed.{Replayed}
use Rattle.sp_replay.specs.declared.replayer.ReplayError.{ReplayError}
use Rattle.sp_replay.specs.declared.replayer.ReplayError.TheVariants as error
use Rattle.sp_replay.specs.declared.trace.Traced.{Traced}
use Rattle.sp_replay.specs.FollowInvariant.{HoldsAllReady}
use Rattle.sp_replay.specs.Replays.{IsUnfitAt, ReplayEndsSo}

-- the end and the output at this system, to which these entries have led
pub record IsAt (es : List Entry) (s : System Plain) (r : Replayed) : Type 0 where
  pub end : ReplayEndsSo es s r.end
  pub output : (q : ℕ) × IsOutputOf s q r.output

-- the system of the state is that along the whole journal; this is told of its entries, and it has come to this
pub record TracedTo (g : CodeRun) (es : List Entry) (r : Traced) : Type 0 where
  pub along : IsSystem plain g es (system_of r.state.kernel)
  pub told : DescribesEntries g es r.told (system_of r.state.kernel)
  pub replayed : IsAt es (system_of r.state.kernel) r.replayed
  pub state : HoldsAllReady r.state

-- what following the journal tells
abbrev pub Traces : CodeRun → List Entry → Result Traced ReplayError → Type 0
Traces g es (Ok r) = TracedTo g es r
Traces g es (Err (error.Unfit n)) = IsUnfitAt g es n
Traces g es (Err error.Memory) = Unit {0}

-- the end and the output alone
abbrev pub replayed_of : Result Traced ReplayError → Result Replayed ReplayError
replayed_of (Ok r) = Ok r.replayed
replayed_of (Err e) = Err e

-- a process that was not started, or has ended
abbrev pub IsNowhere : Condition Plain → Type 0
IsNowhere Absent = Unit {0}
IsNowhere Gone = Unit {0}
IsNowhere _ = ⊥

-- the number in a place of a list, or 0
abbrev pub or_zero : Option ℕ → ℕ
or_zero None = 0
or_zero (Some n) = n

abbrev pub last_in : List ℕ → ℕ → ℕ
last_in ls q = or_zero (slice_get ls q)

-- no process has made a turn
abbrev pub never : ℕ → ℕ
never q = 0
