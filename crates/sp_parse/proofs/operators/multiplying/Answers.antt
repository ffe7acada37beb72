use Rattle.sp_tree.specs.Words as w
use Rattle.sp_tree.specs.Grammar as g
use Rattle.sp_parse.proofs.Rows.{kind_at}
use Rattle.sp_parse.proofs.operators.multiplying.Goals as goal

pub returns-then-is : goal.returns-then-is
returns-then-is c = (w.Times, g.times, kind_at c.args.token w.Times c.is.ensures c.if-is.true)

pub returns-then-is-2 : goal.returns-then-is-2
returns-then-is-2 c = (w.Div, g.quotient, kind_at c.args.token w.Div c.is-2.ensures c.if-is-2.true)

pub returns-then-is-3 : goal.returns-then-is-3
returns-then-is-3 c = (w.Mod, g.modulo, kind_at c.args.token w.Mod c.is-3.ensures c.if-is-3.true)

pub returns-then-is-4 : goal.returns-then-is-4
returns-then-is-4 c = (w.And, g.and, kind_at c.args.token w.And c.is-4.ensures c.if-is-4.true)
