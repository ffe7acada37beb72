use Rattle.std.proofs.Common.{◌+◌, ◌*◌, ◌-◌, [], ◌∷◌, length}
use Rattle.sp_tree.specs.Symbols.{Parts}
use Rattle.sp_parse.specs.Reads.{Pending}
use Rattle.sp_parse.specs.Trees.{and_parts}
use Rattle.sp_parse.proofs.blocks.+block.Given as goal

abbrev pub decreases-block : goal.decreases-block
decreases-block l = 8 * (201 - l.depth) + 1

abbrev pub decreases-parts : goal.decreases-parts
decreases-parts l = 8 * (201 - l.depth) + 3

abbrev pub decreases-procedure : goal.decreases-procedure
decreases-procedure l = 8 * (201 - l.depth) + 2

abbrev pub decreases-function : goal.decreases-function
decreases-function l = 8 * (201 - l.depth) + 2

abbrev pub invariant-parts-more : goal.invariant-parts-more
invariant-parts-more l = Pending l.source (Parts l.depth ∷ []) (λ vs. vs.0) (Parts l.depth ∷ [])
    (λ vs. and_parts l.all vs.0) l.fn.tokens l.tokens

abbrev pub decreases-parts-more : goal.decreases-parts-more
decreases-parts-more l = length l.tokens.rest.now
