use Rattle.std.proofs.Common.{arith}
use Rattle.sp_cell.proofs.Steps.{above_step}
use Rattle.sp_machine.proofs.children.above_all.Goals as goal
use Rattle.sp_machine.proofs.children.above_all.Goals.{then-least-spot, else-least-spot}

pub loop-spot-preserved : goal.loop-spot-preserved
loop-spot-preserved c =
    let step = above_step c.args.spots.now c.loop-spot.spot-index (record { frame = 0; variable = 0 })
    c.loop-spot-test.true in
    elim c.if-least-spot.branch [
      | then-least-spot w ↦ omega
          (arith, step, c.loop-spot.invariant, w.least-is, w.if-least-spot.true)
      | else-least-spot w ↦ omega
          (arith, step, c.loop-spot.invariant, w.least-is, w.if-least-spot.false)
    ]
