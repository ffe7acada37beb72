use Rattle.std.proofs.Common.{length}
use Rattle.sp_scan.proofs.Along.{StripsSoFar}
use Rattle.sp_scan.proofs.bytes.strip.Given as goal

abbrev pub invariant-more : goal.invariant-more
invariant-more l = StripsSoFar l.bytes l.front l.rest l.left

abbrev pub decreases-more : goal.decreases-more
decreases-more l = length l.left
