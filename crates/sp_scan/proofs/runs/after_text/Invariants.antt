use Rattle.std.proofs.Common.{length}
use Rattle.sp_tree.specs.Lexemes.{TextBody}
use Rattle.sp_scan.proofs.Along.{SameAs}
use Rattle.sp_scan.proofs.runs.after_text.Given as goal

abbrev pub invariant-more : goal.invariant-more
invariant-more l = SameAs TextBody l.bytes l.rest

abbrev pub decreases-more : goal.decreases-more
decreases-more l = length l.rest
