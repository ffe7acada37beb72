use Rattle.std.proofs.Common.{length}
use Rattle.sp_scan.proofs.Along.{ValueSoFar}
use Rattle.sp_scan.proofs.rules.exceeds.Given as goal

abbrev pub invariant-more : goal.invariant-more
invariant-more l = ValueSoFar l.digits l.rest l.value

abbrev pub decreases-more : goal.decreases-more
decreases-more l = length l.rest
