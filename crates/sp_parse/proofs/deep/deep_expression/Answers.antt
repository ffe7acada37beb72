use Rattle.std.proofs.Common.{refl}
use Rattle.sp_parse.proofs.Pending.{begin, fail_at}
use Rattle.sp_parse.proofs.Steps.{above}
use Rattle.sp_tree.specs.Symbols.{AnExpression}
use Rattle.sp_tree.specs.Breaches.{nesting}
use Rattle.sp_parse.proofs.Rows.{deep_at, expression_rows}
use Rattle.sp_parse.proofs.deep.deep_expression.Goals as goal

pub returns : goal.returns
returns c = λ d h. fail_at _ (begin c.requires) c.look-first.ensures (λ u q. deep_at c.args.source.now (AnExpression d)
    c.look-first.result u c.begins_simple.result (expression_rows c.look-first.result c.begins_simple.result
    c.begins_simple.ensures d)
    (above d nesting h) refl q) refl c.why.ensures c.fail.ensures
