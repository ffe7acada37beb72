-- None of this belongs to what the program promises: it is for contracts between crates.
-- A turn of the code that ends as the meaning's turn does: the conclusion of the laws of turns, which `sp_link` follows
-- entry by entry.
use Rattle.std.specs.Prelude.{ℕ, ◌+◌, Bool, nat_le}
use Rattle.sp_cell.specs.Map.{Plain}
use Rattle.sp_meaning.specs.LocalWork.{RunInput, LocalState, WorkOutcome, Computed, EndsInFault, IllFormed, OutOfFuel}
use Rattle.sp_meaning.specs.Run.{Store}
use Rattle.sp_meaning.specs.Turn as source
use Rattle.sp_code.specs.declared.code.Parts.{Parts}
use Rattle.sp_cell.specs.declared.spot.Address.{Address}
use Rattle.sp_meaning.specs.Actions.{Stepped, Ticked, Opened, Forked, Offered, Ended}
use Rattle.sp_code.specs.Machine.{Config, Pauses, Opens, Ends, Stop}
use Rattle.sp_code.specs.Turns.{Stopped, Faulted, IsTurn}
use Rattle.sp_code.specs.Memory.{Memory, memory}
use Rattle.sp_code.specs.Memory as m
use Rattle.sp_code.specs.PlainStore.{plain}

-- a run of the code on an input
abbrev pub code_run : RunInput → Parts → ℕ → m.CodeRun
code_run g code pause = record { code = code; input = g.input; limits = g.limits; pause = pause }

-- due so many ticks after its entry
abbrev pub due_after : (since pause : ℕ) → LocalState → Bool
due_after since pause o = nat_le (since + pause) o.ticks

-- where the meaning's turn ends, so does the code's: at a pause, at a stop, with the same fault. A turn that is lost
-- does not come up
abbrev pub EndsAlike : m.CodeRun → Config (Memory Plain) → WorkOutcome source.Stop × Store → Type 0
EndsAlike g c (Computed (source.Paused todo) o, s) = (d : Config (Memory Plain))
    × IsTurn (memory plain g) g.code c (Stopped Pauses d)
EndsAlike g c (Computed (source.Stops (Stepped todo)) o, s) = Unit {0}
EndsAlike g c (Computed (source.Stops (Ticked todo)) o, s) = Unit {0}
EndsAlike g c (Computed (source.Stops (Opened todo)) o, s) = (a : Address) × (d : Config (Memory Plain))
    × IsTurn (memory plain g) g.code c (Stopped (Opens a) d)
EndsAlike g c (Computed (source.Stops (Forked bs todo)) o, s) = (stop : Stop) × (d : Config (Memory Plain))
    × IsTurn (memory plain g) g.code c (Stopped stop d)
EndsAlike g c (Computed (source.Stops (Offered ch k payload todo)) o, s) = (stop : Stop) × (d : Config (Memory Plain))
    × IsTurn (memory plain g) g.code c (Stopped stop d)
EndsAlike g c (Computed (source.Stops Ended) o, s) = (d : Config (Memory Plain))
    × IsTurn (memory plain g) g.code c (Stopped Ends d)
EndsAlike g c (EndsInFault f, s) = (d : Config (Memory Plain)) × IsTurn (memory plain g) g.code c (Faulted f d)
EndsAlike g c (IllFormed, s) = ⊥
EndsAlike g c (OutOfFuel, s) = Unit {0}

-- the meaning's turn has ended
abbrev pub AtEnd : WorkOutcome source.Stop × Store → Type 0
AtEnd (Computed (source.Paused todo) o, s) = Unit {0}
AtEnd (Computed (source.Stops (Stepped todo)) o, s) = ⊥
AtEnd (Computed (source.Stops (Ticked todo)) o, s) = ⊥
AtEnd (Computed (source.Stops (Opened todo)) o, s) = Unit {0}
AtEnd (Computed (source.Stops (Forked bs todo)) o, s) = Unit {0}
AtEnd (Computed (source.Stops (Offered c k g todo)) o, s) = Unit {0}
AtEnd (Computed (source.Stops Ended) o, s) = Unit {0}
AtEnd (EndsInFault f, s) = Unit {0}
AtEnd (IllFormed, s) = ⊥
AtEnd (OutOfFuel, s) = ⊥
