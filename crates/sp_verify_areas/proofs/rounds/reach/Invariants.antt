use Rattle.sp_verify_areas.specs.Rounds.{AreFlagsReached, gaps}
use Rattle.sp_verify_areas.proofs.rounds.reach.Given as goal

-- each flag is at what the start leads to, and with each round there are more
abbrev pub invariant-rounds : goal.invariant-rounds
invariant-rounds l = AreFlagsReached l.code l.start l.flags

abbrev pub decreases-rounds : goal.decreases-rounds
decreases-rounds l = gaps l.flags
