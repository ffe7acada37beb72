use Rattle.std.proofs.Common.{length}
use Rattle.sp_tree.specs.Lexemes.{StarBody}
use Rattle.sp_scan.proofs.Along.{SameAs}
use Rattle.sp_scan.proofs.runs.after_star.Given as goal

abbrev pub invariant-more : goal.invariant-more
invariant-more l = SameAs StarBody l.bytes l.rest

abbrev pub decreases-more : goal.decreases-more
decreases-more l = length l.rest
