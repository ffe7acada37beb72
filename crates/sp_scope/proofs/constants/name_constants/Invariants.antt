use Rattle.std.proofs.Common.{◌≡◌, ◌++◌, drop, false}
use Rattle.sp_tree.specs.NamedTree.{named_constants}
use Rattle.sp_scope.specs.Firsts.{constants_first}
use Rattle.sp_scope.proofs.constants.name_constants.Given as goal

abbrev pub invariant-loop-c : goal.invariant-loop-c
invariant-loop-c l = l.walk.is_lost ≡ false → (l.fn.walk.is_lost ≡ false) ×
    (constants_first l.scopes (drop l.c-index l.cs) l.walk.first ≡ constants_first l.scopes l.cs l.fn.walk.first) ×
    (l.out.items ++ named_constants l.scopes (drop l.c-index l.cs) ≡ named_constants l.scopes l.cs)
