use Rattle.sp_verify_areas.specs.Around.{AreAttached, IsAttachedBy}
use Rattle.sp_verify_areas.specs.Grown.{EachItem, GrowthStep}
use Rattle.sp_verify_areas.proofs.child_nodes.sweep.Given as goal

-- the tables that the instructions so far name have been tried
abbrev pub invariant-loop-q : goal.invariant-loop-q
invariant-loop-q l = GrowthStep (AreAttached l.code l.of_blocks) l.fn.grown l.grown
    (EachItem (IsAttachedBy l.code l.owners l.of_blocks) l.q) l.changed
