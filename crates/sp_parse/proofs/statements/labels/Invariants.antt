use Rattle.std.proofs.Common.{◌∷◌, ◌++◌, length}
use Rattle.sp_parse.specs.StatementProductions.{labels}
use Rattle.sp_parse.specs.Reads.{Pending}
use Rattle.sp_parse.proofs.statements.labels.Given as goal

abbrev pub invariant-more : goal.invariant-more
invariant-more l = Pending l.source labels.symbols labels.makes labels.symbols
    (λ (label, (labels, _)). l.all ++ label ∷ labels) l.fn.tokens l.tokens

abbrev pub decreases-more : goal.decreases-more
decreases-more l = length l.tokens.rest.now
