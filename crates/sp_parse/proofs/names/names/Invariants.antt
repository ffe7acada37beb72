use Rattle.std.proofs.Common.{◌∷◌, ◌++◌, length}
use Rattle.sp_parse.specs.BlockProductions.{names}
use Rattle.sp_parse.specs.Reads.{Pending}
use Rattle.sp_parse.proofs.names.names.Given as goal

abbrev pub invariant-more : goal.invariant-more
invariant-more l = Pending l.source names.symbols names.makes names.symbols (λ (name, (more, _)). l.all ++ name ∷ more)
    l.fn.tokens l.tokens

abbrev pub decreases-more : goal.decreases-more
decreases-more l = length l.tokens.rest.now
