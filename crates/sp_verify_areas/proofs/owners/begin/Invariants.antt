use Rattle.sp_verify_areas.specs.Owners.{AreBegun, Propagates}
use Rattle.sp_verify_areas.proofs.owners.begin.Given as goal

-- the blocks so far are known at their entries
abbrev pub invariant-loop-l : goal.invariant-loop-l
invariant-loop-l l = Propagates l.code l.fn.owners l.owners (AreBegun l.code l.l-index) l.changed
