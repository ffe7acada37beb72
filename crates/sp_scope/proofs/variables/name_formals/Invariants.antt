use Rattle.std.proofs.Common.{◌≡◌, ◌++◌, drop, false}
use Rattle.sp_tree.specs.NamedTree.{formals_named}
use Rattle.sp_scope.specs.Firsts.{heading_first}
use Rattle.sp_scope.proofs.variables.name_formals.Given as goal

abbrev pub invariant-loop-f : goal.invariant-loop-f
invariant-loop-f l = l.walk.is_lost ≡ false → (l.fn.walk.is_lost ≡ false) ×
    (heading_first l.scopes (drop l.f-index l.fs) l.walk.first ≡ heading_first l.scopes l.fs l.fn.walk.first) ×
    (l.out.items ++ formals_named l.scopes l.block (drop l.f-index l.fs) ≡ formals_named l.scopes l.block l.fs)
