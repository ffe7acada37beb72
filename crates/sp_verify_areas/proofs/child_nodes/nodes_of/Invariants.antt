use Rattle.sp_verify_areas.specs.Around.{AreNodes}
use Rattle.sp_verify_areas.proofs.child_nodes.nodes_of.Given as goal

-- the owners so far have theirs
abbrev pub invariant-loop-p : goal.invariant-loop-p
invariant-loop-p l = AreNodes l.code l.owners l.of_blocks l.grown l.at l.p
