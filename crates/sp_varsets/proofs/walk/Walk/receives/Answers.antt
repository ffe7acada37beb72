use Rattle.std.proofs.Common.{◌+◌}
use Rattle.sp_tree.specs.CheckedOf.{expression_of}
use Rattle.sp_varsets.proofs.StatementRecords.{walked_both, walked_no_statements, receives_on, receives_end}
use Rattle.sp_varsets.proofs.walk.Walk.receives.Goals as goal

pub loop-i-preserved : goal.loop-i-preserved
loop-i-preserved c at v z start e f w =
    let on = receives_on c.args.variables.now c.loop-i.i c.args.number at (expression_of c.args.channel.now)
    c.index-variables-i.result c.loop-i-test.true c.index-variables-i.is in
    let one = c.receive.ensures at (expression_of c.args.channel.now) start e f in
    c.loop-i.invariant at v z start e f (rw on (walked_both one w))

pub returns : goal.returns
returns c at = c.loop-i.invariant at c.loop-i.self c.loop-i.into c.new-through.result c.new-through.ensures
    c.expression.ensures (rw (receives_end c.args.variables.now c.loop-i.i (c.args.number + c.loop-i.i) at
    (expression_of c.args.channel.now) c.loop-i-test.false)
    (walked_no_statements c.loop-i.self c.loop-i.into))
