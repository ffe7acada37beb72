use Rattle.sp_journal.specs.Births.{births}
use Rattle.sp_report.proofs.Orders.{one_forked}
use Rattle.sp_report.proofs.tree.forked.Goals as goal

pub loop-process-preserved : goal.loop-process-preserved
loop-process-preserved c =
    one_forked (births c.args.ledger.now.journal.entries) _ _ c.loop-process.process _ c.loop-process.auto.process
    c.loop-process.invariant c.in-Ok.ensures c.in-Ok-insert.ensures.entries
