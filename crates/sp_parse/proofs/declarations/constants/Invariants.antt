use Rattle.std.proofs.Common.{ℕ, length}
use Rattle.sp_parse.specs.BlockProductions.{constants}
use Rattle.sp_parse.specs.Reads.{Pending}
use Rattle.sp_parse.proofs.declarations.constants.Given as goal

abbrev pub invariant-more : goal.invariant-more
invariant-more l = (d : ℕ) → Pending l.source (constants l.fn.all d).symbols (constants l.fn.all d).makes
    (constants l.fn.all d).symbols (constants l.all d).makes l.fn.tokens l.tokens

abbrev pub decreases-more : goal.decreases-more
decreases-more l = length l.tokens.rest.now
