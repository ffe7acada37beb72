use Rattle.sp_verify_areas.proofs.Surroundings.{all_attached}
use Rattle.sp_verify_areas.proofs.child_nodes.hang_all.Goals as goal

pub returns-then-not-found : goal.returns-then-not-found
returns-then-not-found c =
    all_attached c.args.code.now c.args.of_blocks.now c.args.owners.now c.sweep.new.grown c.in-Ok-sweep.ensures.just
    (c.in-Ok-sweep.ensures.unchanged c.if-not-found.true).1
