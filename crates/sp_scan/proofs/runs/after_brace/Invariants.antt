use Rattle.std.proofs.Common.{length}
use Rattle.sp_tree.specs.Lexemes.{BraceBody}
use Rattle.sp_scan.proofs.Along.{SameAs}
use Rattle.sp_scan.proofs.runs.after_brace.Given as goal

abbrev pub invariant-more : goal.invariant-more
invariant-more l = SameAs BraceBody l.bytes l.rest

abbrev pub decreases-more : goal.decreases-more
decreases-more l = length l.rest
