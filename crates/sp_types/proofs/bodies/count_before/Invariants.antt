use Rattle.std.proofs.Common.{◌≡◌, drop, false}
use Rattle.sp_types.specs.TypeWalk.{count_before}
use Rattle.sp_types.proofs.bodies.count_before.Given as goal

abbrev pub invariant-loop-b : goal.invariant-loop-b
invariant-loop-b l =
    (l.walk.is_lost ≡ false → (l.fn.walk.is_lost ≡ false) × (l.walk.first ≡ l.fn.walk.first) ×
    (count_before l.k l.at (drop l.b-index l.bodies) ≡ count_before 0 l.at l.bodies))
