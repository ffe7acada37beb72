use Rattle.std.proofs.Common.{◌≡◌, ◌∙◌, sym, ap}
use Rattle.sp_journal.specs.Births.{births}
use Rattle.sp_report.specs.Fits.{table_conditions}
use Rattle.sp_report.specs.WaitingText.{is_waiting}
use Rattle.sp_report.proofs.Orders.{one_fails, one_passes}
use Rattle.sp_report.proofs.waiting.waiting_processes.Goals as goal
use Rattle.sp_report.proofs.waiting.waiting_processes.Goals.{then-is_waiting+in-Ok+in-Ok-insert, else-is_waiting}

pub loop-process-preserved : goal.loop-process-preserved
loop-process-preserved c =
    let s = births c.args.ledger.now.journal.entries in
    let p = c.loop-process.process in
    let is : is_waiting ((table_conditions c.args.table.now).of p) ≡ c.is_waiting.result =
    ap is_waiting (sym c.of.ensures)
    ∙ sym c.is_waiting.ensures in
    elim c.if-is_waiting.branch [
      | then-is_waiting+in-Ok+in-Ok-insert w ↦ one_passes
          (λ q. is_waiting ((table_conditions c.args.table.now).of q)) p s _ _
          _ c.loop-process.invariant (is ∙ w.if-is_waiting.true) w.in-Ok.ensures
          ((λ i. (w.names-is i).entries) ∙ w.in-Ok-insert.ensures.entries)
      | else-is_waiting w ↦ one_fails (λ q. is_waiting ((table_conditions c.args.table.now).of q)) p s _ _
          c.loop-process.invariant
          (is ∙ w.if-is_waiting.false) (λ i. (w.names-is i).entries)
    ]
