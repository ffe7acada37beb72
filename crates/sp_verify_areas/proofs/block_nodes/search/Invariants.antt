use Rattle.sp_verify_areas.specs.Grown.{HaveBlockNodes, none_count}
use Rattle.sp_verify_areas.proofs.block_nodes.search.Given as goal

-- what has a node is led
abbrev pub invariant-loop-item : goal.invariant-loop-item
invariant-loop-item l = HaveBlockNodes l.code.layouts l.grown

-- the same, and a sweep that finds something leaves less to be found
abbrev pub invariant-sweeps : goal.invariant-sweeps
invariant-sweeps l = HaveBlockNodes l.code.layouts l.grown

abbrev pub decreases-sweeps : goal.decreases-sweeps
decreases-sweeps l = none_count l.grown.of
