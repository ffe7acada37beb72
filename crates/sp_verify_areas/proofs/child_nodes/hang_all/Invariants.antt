use Rattle.sp_verify_areas.specs.Around.{AreAttached}
use Rattle.sp_verify_areas.specs.Grown.{none_count}
use Rattle.sp_verify_areas.proofs.child_nodes.hang_all.Given as goal

-- nodes stand for what is around
abbrev pub invariant-loop-q : goal.invariant-loop-q
invariant-loop-q l = AreAttached l.code l.of_blocks l.grown

-- the same, and a sweep that finds something leaves less to be found
abbrev pub invariant-sweeps : goal.invariant-sweeps
invariant-sweeps l = AreAttached l.code l.of_blocks l.grown

abbrev pub decreases-sweeps : goal.decreases-sweeps
decreases-sweeps l = none_count l.grown.of
