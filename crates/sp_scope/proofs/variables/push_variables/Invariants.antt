use Rattle.std.proofs.Common.{◌≡◌, ◌++◌, drop, false}
use Rattle.sp_tree.specs.NamedTree.{variables_named}
use Rattle.sp_scope.proofs.variables.push_variables.Given as goal

abbrev pub invariant-loop-x : goal.invariant-loop-x
invariant-loop-x l = l.walk.is_lost ≡ false → (l.fn.walk.is_lost ≡ false) ×
    (l.walk.first ≡ l.fn.walk.first) ×
    (l.out.items ++ variables_named l.block l.role l.kind (drop l.x-index l.xs)
    ≡ l.fn.out.items ++ variables_named l.block l.role l.kind l.xs)
