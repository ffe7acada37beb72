use Rattle.std.proofs.Common.{◌≡◌, ◌+◌, ◌-◌, ℕ, length}
use Rattle.sp_replay.specs.TraceAnswers.{last_in}
use Rattle.sp_replay.proofs.trace.reach.Given as goal

abbrev pub invariant-loop-lasts : goal.invariant-loop-lasts
invariant-loop-lasts l = (q : ℕ) → last_in l.lasts q ≡ last_in l.initial.lasts q

abbrev pub decreases-loop-lasts : goal.decreases-loop-lasts
decreases-loop-lasts l = l.process + 1 - length l.lasts
