use Rattle.std.proofs.Common.{◌≡◌, ◌+◌, ◌-◌, ℕ, length}
use Rattle.sp_replay.specs.HeldProcesses.{held_at}
use Rattle.sp_replay.proofs.held.reach.Given as goal

abbrev pub invariant-loop-held : goal.invariant-loop-held
invariant-loop-held l = (q : ℕ) → held_at l.held q ≡ held_at l.initial.held q

abbrev pub decreases-loop-held : goal.decreases-loop-held
decreases-loop-held l = l.number + 1 - length l.held
