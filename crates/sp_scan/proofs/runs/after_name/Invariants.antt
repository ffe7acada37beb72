use Rattle.std.proofs.Common.{length}
use Rattle.sp_tree.specs.Characters.{is_name_byte}
use Rattle.sp_scan.proofs.Along.{RunSoFar}
use Rattle.sp_scan.proofs.runs.after_name.Given as goal

abbrev pub invariant-more : goal.invariant-more
invariant-more l = RunSoFar is_name_byte l.bytes l.rest

abbrev pub decreases-more : goal.decreases-more
decreases-more l = length l.rest
