use Rattle.std.proofs.Common.{◌≡◌, ◌++◌, drop, false}
use Rattle.sp_tree.specs.NamedTree.{groups_named}
use Rattle.sp_scope.proofs.kinds.name_groups.Given as goal

abbrev pub invariant-loop-g : goal.invariant-loop-g
invariant-loop-g l = l.walk.is_lost ≡ false → (l.fn.walk.is_lost ≡ false) ×
    (l.walk.first ≡ l.fn.walk.first) ×
    (l.out.items ++ groups_named l.scopes (drop l.g-index l.gs) ≡ groups_named l.scopes l.gs)
