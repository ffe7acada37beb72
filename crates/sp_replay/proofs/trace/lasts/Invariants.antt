use Rattle.sp_replay.proofs.LastTurns.{LastsFrom}
use Rattle.sp_replay.proofs.trace.lasts.Given as goal

abbrev pub invariant-loop-index : goal.invariant-loop-index
invariant-loop-index l = LastsFrom l.entries l.told l.index l.out
