use Rattle.std.proofs.Common.{length}
use Rattle.sp_scan.proofs.Along.{PlaceSoFar}
use Rattle.sp_scan.proofs.scanner.behind.Given as goal

abbrev pub invariant-more : goal.invariant-more
invariant-more l = PlaceSoFar l.fn.at l.bytes l.rest l.at

abbrev pub decreases-more : goal.decreases-more
decreases-more l = length l.rest
