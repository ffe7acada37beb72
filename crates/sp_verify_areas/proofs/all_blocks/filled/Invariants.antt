use Rattle.sp_verify_areas.specs.Around.{AreFilled}
use Rattle.sp_verify_areas.proofs.all_blocks.filled.Given as goal

-- the layouts so far have nodes
abbrev pub invariant-loop-item : goal.invariant-loop-item
invariant-loop-item l = AreFilled l.code l.item l.grown
