use Rattle.sp_verify_areas.specs.Grown.{HaveBlockNodes, IsTried}
use Rattle.sp_verify_areas.proofs.TreeGrowth.{items_more}
use Rattle.sp_verify_areas.proofs.block_nodes.sweep.Goals as goal

pub loop-item-preserved : goal.loop-item-preserved
loop-item-preserved c =
    items_more (HaveBlockNodes c.args.code.now.layouts)
    (IsTried c.args.code.now.layouts) c.args.grown.now c.loop-item.grown
    c.settle.new.grown c.loop-item.item c.loop-item.changed c.in-Ok.value c.loop-item.invariant c.in-Ok.ensures
