use Rattle.std.proofs.Common.{◌∷◌, ◌++◌, length}
use Rattle.sp_parse.specs.BlockProductions.{fields}
use Rattle.sp_parse.specs.Reads.{Pending}
use Rattle.sp_parse.proofs.types.fields.Given as goal

abbrev pub invariant-more : goal.invariant-more
invariant-more l = Pending l.source fields.symbols fields.makes fields.symbols
    (λ (name, (more, (_, (kind, (groups, _))))). l.all ++ record { names = name ∷ more; kind = kind } ∷ groups)
    l.fn.tokens l.tokens

abbrev pub decreases-more : goal.decreases-more
decreases-more l = length l.tokens.rest.now
