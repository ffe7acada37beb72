use Rattle.sp_verify_areas.specs.Alone.{ChildFails, child_fails}
use Rattle.sp_verify_areas.specs.LeastPlaces.{IsLeast, Upto}
use Rattle.sp_verify_areas.proofs.tables.first_child.Given as goal

-- of the children so far
abbrev pub invariant-loop-child : goal.invariant-loop-child
invariant-loop-child l = IsLeast (Upto (ChildFails (child_fails l.count l.forked) l.children) l.child-index) l.first
