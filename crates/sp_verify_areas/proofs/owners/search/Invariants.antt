use Rattle.sp_verify_areas.specs.Owners.{AreTrue, room}
use Rattle.sp_verify_areas.proofs.owners.search.Given as goal

-- what is known is true, and a sweep that finds something new leaves less to be found
abbrev pub invariant-sweeps : goal.invariant-sweeps
invariant-sweeps l = AreTrue l.code l.owners

abbrev pub decreases-sweeps : goal.decreases-sweeps
decreases-sweeps l = room l.owners
