use Rattle.sp_report.proofs.NameOrder.{has_more}
use Rattle.sp_report.proofs.preorder.has_below.Goals as goal

pub loop-process-preserved : goal.loop-process-preserved
loop-process-preserved c =
    has_more c.loop-process.process c.args.order.now c.loop-process.invariant
    (c.is_placed.ensures c.if-not-is_placed.false)
