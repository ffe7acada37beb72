use Rattle.std.proofs.Common.{length}
use Rattle.sp_scan.proofs.Along.{SpelledSoFar}
use Rattle.sp_scan.proofs.bytes.is_spelled.Given as goal

abbrev pub invariant-more : goal.invariant-more
invariant-more l = SpelledSoFar l.bytes l.word l.left l.right

abbrev pub decreases-more : goal.decreases-more
decreases-more l = length l.left
