use Rattle.std.proofs.Common.{◌≡◌, ◌++◌, drop, false}
use Rattle.sp_tree.specs.NamedTree.{enumeration_constants}
use Rattle.sp_scope.proofs.kinds.enumerate.Given as goal

abbrev pub invariant-loop-x : goal.invariant-loop-x
invariant-loop-x l = l.walk.is_lost ≡ false → (l.fn.walk.is_lost ≡ false) ×
    (l.walk.first ≡ l.fn.walk.first) ×
    (l.out.items ++ enumeration_constants l.kind l.ordinal (drop l._x-index l.xs)
    ≡ enumeration_constants l.kind 0 l.xs)
