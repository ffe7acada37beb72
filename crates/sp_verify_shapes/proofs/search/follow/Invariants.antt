use Rattle.std.proofs.Common.{◌≡◌, []}
use Rattle.sp_verify_shapes.specs.Search.{AreCompared, room}
use Rattle.sp_verify_shapes.proofs.search.follow.Given as goal

-- what is kept is true, and all was stepped from
abbrev pub invariant-levels : goal.invariant-levels
invariant-levels l = record { compared : AreCompared l.code l.search; still : l.search.frontier ≡ [] }

abbrev pub decreases-levels : goal.decreases-levels
decreases-levels l = room l.search
