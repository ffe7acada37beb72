use Rattle.sp_report.specs.GuessedOrder.{RisesTo}
use Rattle.sp_report.proofs.preorder.rises.Given as goal

-- the names so far
abbrev pub invariant-loop-k : goal.invariant-loop-k
invariant-loop-k l = RisesTo l.k l.names
