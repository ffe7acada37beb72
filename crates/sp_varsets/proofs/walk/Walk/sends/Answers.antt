use Rattle.std.proofs.Common.{◌+◌}
use Rattle.sp_tree.specs.CheckedOf.{expression_of}
use Rattle.sp_varsets.proofs.StatementRecords.{walked_both, walked_no_statements, sends_on, sends_end}
use Rattle.sp_varsets.proofs.walk.Walk.sends.Goals as goal

pub loop-i-preserved : goal.loop-i-preserved
loop-i-preserved c at v z start e f w =
    let on = sends_on c.args.values.now c.loop-i.i c.args.number at (expression_of c.args.channel.now)
    c.index-values-i.result c.loop-i-test.true c.index-values-i.is in
    let one = c.send.ensures at (expression_of c.args.channel.now) start e f in
    c.loop-i.invariant at v z start e f (rw on (walked_both one w))

pub returns : goal.returns
returns c at = c.loop-i.invariant at c.loop-i.self c.loop-i.into c.new-through.result c.new-through.ensures
    c.expression.ensures (rw (sends_end c.args.values.now c.loop-i.i (c.args.number + c.loop-i.i) at
    (expression_of c.args.channel.now) c.loop-i-test.false)
    (walked_no_statements c.loop-i.self c.loop-i.into))
