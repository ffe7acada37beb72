use Rattle.sp_verify_shapes.specs.Starts.{AddsStarts, IsOfChildren}
use Rattle.sp_verify_shapes.proofs.begin.begin_children.Given as goal

-- those of the children so far are added
abbrev pub invariant-loop-child : goal.invariant-loop-child
invariant-loop-child l = AddsStarts l.code (IsOfChildren l.children l.child-index) l.fn.arrivals l.arrivals
