use Rattle.std.proofs.Common.{length}
use Rattle.sp_tree.specs.Characters.{is_digit}
use Rattle.sp_scan.proofs.Along.{RunSoFar}
use Rattle.sp_scan.proofs.runs.after_number.Given as goal

abbrev pub invariant-more : goal.invariant-more
invariant-more l = RunSoFar is_digit l.bytes l.rest

abbrev pub decreases-more : goal.decreases-more
decreases-more l = length l.rest
