use Rattle.std.proofs.Common.{◌≡◌, ◌++◌, drop, false}
use Rattle.sp_tree.specs.NamedTree.{numbers}
use Rattle.sp_scope.proofs.variables.numbers.Given as goal

abbrev pub invariant-loop-x : goal.invariant-loop-x
invariant-loop-x l = l.walk.is_lost ≡ false → (l.fn.walk.is_lost ≡ false) ×
    (l.walk.first ≡ l.fn.walk.first) ×
    (l.out.items ++ numbers l.n (drop l._x-index l.xs) ≡ numbers l.fn.n l.xs)
