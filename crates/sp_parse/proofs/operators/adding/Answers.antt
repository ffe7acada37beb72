use Rattle.sp_tree.specs.Words as w
use Rattle.sp_tree.specs.Grammar as g
use Rattle.sp_parse.proofs.Rows.{kind_at}
use Rattle.sp_parse.proofs.operators.adding.Goals as goal

pub returns-then-is : goal.returns-then-is
returns-then-is c = (w.Plus, g.plus, kind_at c.args.token w.Plus c.is.ensures c.if-is.true)

pub returns-then-is-2 : goal.returns-then-is-2
returns-then-is-2 c = (w.Minus, g.minus, kind_at c.args.token w.Minus c.is-2.ensures c.if-is-2.true)

pub returns-then-is-3 : goal.returns-then-is-3
returns-then-is-3 c = (w.Or, g.or, kind_at c.args.token w.Or c.is-3.ensures c.if-is-3.true)
