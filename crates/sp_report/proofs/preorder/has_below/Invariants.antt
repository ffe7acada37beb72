use Rattle.sp_report.specs.GuessedOrder.{HasBelow}
use Rattle.sp_report.proofs.preorder.has_below.Given as goal

-- the processes so far
abbrev pub invariant-loop-process : goal.invariant-loop-process
invariant-loop-process l = HasBelow l.process l.order
