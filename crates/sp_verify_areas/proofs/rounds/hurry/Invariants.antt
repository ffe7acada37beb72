use Rattle.std.proofs.Common.{ℕ}
use Rattle.sp_verify_areas.specs.Rounds.{AreFlagsReached, Widens}
use Rattle.sp_verify_areas.proofs.rounds.hurry.Given as goal

-- no flag was taken away
abbrev pub invariant-loop-step : goal.invariant-loop-step
invariant-loop-step l = (s : ℕ) → AreFlagsReached l.code s l.fn.flags → Widens l.code s l.fn.flags l.flags
