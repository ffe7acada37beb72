use Rattle.std.proofs.Common.{◌≡◌, ◌++◌, map, drop, false}
use Rattle.sp_tree.specs.NamedOf.{block_of}
use Rattle.sp_types.specs.TypeWalk.{bodies}
use Rattle.sp_types.proofs.bodies.bodies.Given as goal

abbrev pub invariant-loop-b : goal.invariant-loop-b
invariant-loop-b l =
    (l.walk.is_lost ≡ false → (l.fn.walk.is_lost ≡ false) × (l.walk.first ≡ l.fn.walk.first) ×
    (l.out.items ++ bodies (map block_of (drop l.b-index l.blocks)) ≡ bodies (map block_of l.blocks)))
