use Rattle.std.proofs.Common.{◌≡◌, ◌++◌, length}
use Rattle.sp_tree.specs.Spelling.{within_quotes}
use Rattle.sp_parse.proofs.spelling.unquoted.Given as goal

abbrev pub invariant-more : goal.invariant-more
invariant-more l = l.all.items ++ within_quotes l.rest ≡ within_quotes l.bytes

abbrev pub decreases-more : goal.decreases-more
decreases-more l = length l.rest
