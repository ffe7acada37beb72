use Rattle.sp_verify_areas.specs.Around.{AreAttached, IsAttachedBy}
use Rattle.sp_verify_areas.proofs.TreeGrowth.{items_more}
use Rattle.sp_verify_areas.proofs.child_nodes.sweep.Goals as goal

pub loop-q-preserved : goal.loop-q-preserved
loop-q-preserved c =
    items_more (AreAttached c.args.code.now c.args.of_blocks.now)
    (IsAttachedBy c.args.code.now c.args.owners.now c.args.of_blocks.now)
    c.args.grown.now c.loop-q.grown c.hang.new.grown c.loop-q.q c.loop-q.changed c.in-Ok.value c.loop-q.invariant
    c.in-Ok.ensures
