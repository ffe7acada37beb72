use Rattle.std.proofs.Common.{◌≡◌, drop, false}
use Rattle.sp_tree.specs.Scopes.{inner_env}
use Rattle.sp_tree.specs.NameWalk.{names_local}
use Rattle.sp_scope.specs.Firsts.{names_first}
use Rattle.sp_scope.proofs.variables.declare_variables.Given as goal

abbrev pub invariant-loop-x : goal.invariant-loop-x
invariant-loop-x l = l.walk.is_lost ≡ false → (l.fn.walk.is_lost ≡ false) ×
    (names_first l.scopes.around l.role l.scopes.local (drop l.x-index l.xs) l.walk.first
    ≡ names_first l.fn.scopes.around l.role l.fn.scopes.local l.xs l.fn.walk.first) ×
    (inner_env l.scopes.around (names_local l.role l.scopes.local (drop l.x-index l.xs))
    ≡ inner_env l.fn.scopes.around (names_local l.role l.fn.scopes.local l.xs))
