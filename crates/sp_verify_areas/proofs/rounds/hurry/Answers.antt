use Rattle.sp_verify_areas.proofs.CycleFreedom.{widens_then}
use Rattle.sp_verify_areas.proofs.rounds.hurry.Goals as goal

pub loop-step-preserved : goal.loop-step-preserved
loop-step-preserved c = λ s led.
    let so_far = c.loop-step.invariant s led in
    widens_then c.args.code.now s c.args.flags.now c.loop-step.flags c.visit.new.flags so_far
    (c.visit.ensures s so_far.led)
