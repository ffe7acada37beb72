use Rattle.sp_verify_areas.specs.Grown.{HaveBlockNodes, EachItem, IsTried, GrowthStep}
use Rattle.sp_verify_areas.proofs.block_nodes.sweep.Given as goal

-- the layouts so far have been tried
abbrev pub invariant-loop-item : goal.invariant-loop-item
invariant-loop-item l = GrowthStep (HaveBlockNodes l.code.layouts) l.fn.grown l.grown
    (EachItem (IsTried l.code.layouts) l.item) l.changed
