use Rattle.sp_verify_areas.specs.Around.{PutsChildren}
use Rattle.sp_verify_areas.proofs.child_nodes.put_children.Given as goal

-- the children so far have their nodes
abbrev pub invariant-loop-child : goal.invariant-loop-child
invariant-loop-child l = PutsChildren l.fn.nodes l.nodes l.around l.children l.child-index
