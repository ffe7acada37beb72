use Rattle.std.proofs.Common.{refl}
use Rattle.sp_parse.proofs.Pending.{begin, fail_at}
use Rattle.sp_parse.proofs.Steps.{above}
use Rattle.sp_tree.specs.Symbols.{ANegated}
use Rattle.sp_tree.specs.Breaches.{nesting}
use Rattle.sp_parse.proofs.Rows.{deep_at, negated_rows}
use Rattle.sp_parse.proofs.deep.deep_factor.Goals as goal

pub returns : goal.returns
returns c = λ d h. fail_at _ (begin c.requires) c.look-first.ensures (λ u q. deep_at c.args.source.now (ANegated d)
    c.look-first.result u c.begins_factor.result (negated_rows c.look-first.result c.begins_factor.result
    c.begins_factor.ensures d)
    (above d nesting h) refl q) refl c.why.ensures c.fail.ensures
