use Rattle.std.proofs.Common.{◌≡◌, ◌++◌, drop, false}
use Rattle.sp_types.specs.TypeWalk.{places_of}
use Rattle.sp_types.proofs.declarations.places_of.Given as goal

abbrev pub invariant-loop-k : goal.invariant-loop-k
invariant-loop-k l = l.walk.is_lost ≡ false → (l.fn.walk.is_lost ≡ false) × (l.walk.first ≡ l.fn.walk.first) ×
    (l.out.items ++ places_of (drop l.k-index l.kinds) ≡ places_of l.kinds)
