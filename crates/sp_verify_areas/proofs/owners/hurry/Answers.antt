use Rattle.sp_verify_areas.proofs.OwnerSteps.{any_more}
use Rattle.sp_verify_areas.proofs.owners.hurry.Goals as goal

pub visit_one-changed-requires : goal.visit_one-changed-requires
visit_one-changed-requires c = record { just = c.loop-step.invariant.just }

pub loop-step-preserved : goal.loop-step-preserved
loop-step-preserved c =
    any_more c.args.code.now c.args.owners.now c.loop-step.owners c.visit_one-changed.new.owners c.loop-step.changed
    c.visit_one-changed.result c.loop-step.invariant c.visit_one-changed.ensures
