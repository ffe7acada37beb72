use Rattle.sp_verify_areas.specs.Owners.{IsHanded, Propagates}
use Rattle.sp_verify_areas.proofs.owners.visit_children.Given as goal

-- the children so far have been handed it
abbrev pub invariant-loop-k : goal.invariant-loop-k
invariant-loop-k l = Propagates l.code l.fn.owners l.owners (IsHanded l.code l.o l.children l.k) l.changed
