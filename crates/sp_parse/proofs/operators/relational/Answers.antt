use Rattle.sp_tree.specs.Words as w
use Rattle.sp_tree.specs.Grammar as g
use Rattle.sp_parse.proofs.Rows.{kind_at}
use Rattle.sp_parse.proofs.operators.relational.Goals as goal

pub returns-then-is : goal.returns-then-is
returns-then-is c = (w.Equal, g.equal, kind_at c.args.token w.Equal c.is.ensures c.if-is.true)

pub returns-then-is-2 : goal.returns-then-is-2
returns-then-is-2 c = (w.Unequal, g.unequal, kind_at c.args.token w.Unequal c.is-2.ensures c.if-is-2.true)

pub returns-then-is-3 : goal.returns-then-is-3
returns-then-is-3 c = (w.Less, g.less, kind_at c.args.token w.Less c.is-3.ensures c.if-is-3.true)

pub returns-then-is-4 : goal.returns-then-is-4
returns-then-is-4 c = (w.AtMost, g.at_most, kind_at c.args.token w.AtMost c.is-4.ensures c.if-is-4.true)

pub returns-then-is-5 : goal.returns-then-is-5
returns-then-is-5 c = (w.Greater, g.greater, kind_at c.args.token w.Greater c.is-5.ensures c.if-is-5.true)

pub returns-then-is-6 : goal.returns-then-is-6
returns-then-is-6 c = (w.AtLeast, g.at_least, kind_at c.args.token w.AtLeast c.is-6.ensures c.if-is-6.true)
