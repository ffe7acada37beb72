use Rattle.std.proofs.Common.{◌≡◌, length}
use Rattle.sp_verify_shapes.specs.Search.{AreStepped}
use Rattle.sp_verify_shapes.proofs.search.walk_all.Given as goal

-- what is kept stays true
abbrev pub invariant-frontier : goal.invariant-frontier
invariant-frontier l = record { stepped : AreStepped l.code l.search; same : l.search.at ≡ l.fn.search.at }

abbrev pub decreases-frontier : goal.decreases-frontier
decreases-frontier l = length l.search.frontier
