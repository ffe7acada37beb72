-- Some of this belongs to what the program promises (docs/promise.txt).
-- At which instruction a turn ends: the one whose mark says where the process is. A process that stops at a fork, open,
-- send or receive has stepped over it; one that faults, ends or is due stands at it.
use Rattle.std.specs.Prelude.{◌≡◌, ◌⊎◌, ℕ, ◌-◌, Some, slice_get}
use Rattle.sp_code.specs.declared.instr.Instr.TheVariants as i
use Rattle.sp_code.specs.declared.code.Parts.{Parts}
use Rattle.sp_code.specs.Machine.{Stop, Forks, Opens, Sends, Receives, Ends, Pauses, Config, At}
use Rattle.sp_code.specs.Turns.{Turn, Stopped, Faulted}

-- the number of a process's next instruction
abbrev pub next_of : {M : Type 0} → Config M → ℕ
next_of (At pc stack n) = pc

-- of a process that stopped so, with this next instruction
abbrev pub at_stop : Stop → ℕ → ℕ
at_stop Ends pc = pc
at_stop Pauses pc = pc
at_stop _ pc = pc - 1

-- the instruction at which a turn ends; of one that is due, the one with which it goes on
abbrev pub at_turn : {M : Type 0} → Turn M → ℕ
at_turn (Stopped stop c) = at_stop stop (next_of c)
at_turn (Faulted fault c) = next_of c

-- the instruction there is that of the stop
abbrev pub StopStands : Parts → Stop → ℕ → Type 0
StopStands code (Forks table first count) q = (slice_get code.instrs q ≡ Some (i.Fork table))
    ⊎ (slice_get code.instrs q ≡ Some (i.Forall table))
StopStands code (Opens target) q = slice_get code.instrs q ≡ Some i.Open
StopStands code (Sends channel message cells) q = slice_get code.instrs q ≡ Some (i.Send message)
StopStands code (Receives channel message target) q = slice_get code.instrs q ≡ Some (i.Receive message)
StopStands code Ends q = slice_get code.instrs q ≡ Some i.End
StopStands code Pauses q = Unit {0}
