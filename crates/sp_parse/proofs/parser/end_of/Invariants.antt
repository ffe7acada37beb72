use Rattle.std.proofs.Common.{length}
use Rattle.sp_parse.proofs.TreeAnswers.{PlaceSoFar}
use Rattle.sp_parse.proofs.parser.end_of.Given as goal

abbrev pub invariant-more : goal.invariant-more
invariant-more l = PlaceSoFar l.text l.rest l.line l.column

abbrev pub decreases-more : goal.decreases-more
decreases-more l = length l.rest
