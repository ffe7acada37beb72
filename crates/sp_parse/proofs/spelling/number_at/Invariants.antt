use Rattle.std.proofs.Common.{◌≡◌, length}
use Rattle.sp_tree.specs.Spelling.{number_of, digits_value}
use Rattle.sp_parse.proofs.spelling.number_at.Given as goal

abbrev pub invariant-more : goal.invariant-more
invariant-more l = digits_value l.value l.rest ≡ number_of l.source.text.now l.fn.token

abbrev pub decreases-more : goal.decreases-more
decreases-more l = length l.rest
