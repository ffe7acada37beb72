use Rattle.std.proofs.Common.{◌∷◌, ◌++◌, length}
use Rattle.sp_parse.specs.BlockProductions.{formals}
use Rattle.sp_parse.specs.Reads.{Pending}
use Rattle.sp_parse.proofs.headings.some_formals.Given as goal

abbrev pub invariant-more : goal.invariant-more
invariant-more l = Pending l.source formals.symbols formals.makes formals.symbols
    (λ (formal, (more, _)). l.all ++ formal ∷ more) l.fn.tokens l.tokens

abbrev pub decreases-more : goal.decreases-more
decreases-more l = length l.tokens.rest.now
