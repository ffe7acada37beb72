use Rattle.std.proofs.Common.{◌∙◌, sym}
use Rattle.sp_journal.specs.Births.{births}
use Rattle.sp_kernel.specs.Kernels.{system_of}
use Rattle.sp_report.proofs.Orders.{one_fails, one_passes}
use Rattle.sp_where.specs.States.{is_live}
use Rattle.sp_where.proofs.state.live_names.Goals as goal
use Rattle.sp_where.proofs.state.live_names.Goals.{then-is_live+in_ok-name+in_ok-insert, else-is_live}

pub loop-process-preserved : goal.loop-process-preserved
loop-process-preserved c =
    let s = births c.args.ledger.now.journal.entries in
    let p = c.loop-process.process in
    elim c.if-is_live.branch [
      | then-is_live+in_ok-name+in_ok-insert w ↦ one_passes
          (λ q. is_live ((system_of c.args.state.now.kernel).condition q)) p s _ _
          _ c.loop-process.invariant (sym c.is_live.ensures ∙ w.if-is_live.true) w.in_ok-name.ensures
          ((λ i. (w.names-is i).entries) ∙ w.in_ok-insert.ensures.entries)
      | else-is_live w ↦ one_fails (λ q. is_live ((system_of c.args.state.now.kernel).condition q)) p s _ _
          c.loop-process.invariant
          (sym c.is_live.ensures ∙ w.if-is_live.false) (λ i. (w.names-is i).entries)
    ]
