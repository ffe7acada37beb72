use Rattle.std.proofs.Common.{◌≡◌, ◌++◌, map, length}
use Rattle.sp_tree.specs.Characters.{lower_case_letter as lower_of}
use Rattle.sp_parse.proofs.spelling.lowered.Given as goal

abbrev pub invariant-more : goal.invariant-more
invariant-more l = l.all.items ++ map lower_of l.rest ≡ map lower_of l.bytes

abbrev pub decreases-more : goal.decreases-more
decreases-more l = length l.rest
