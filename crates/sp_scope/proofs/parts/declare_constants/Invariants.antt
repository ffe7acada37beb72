use Rattle.std.proofs.Common.{◌≡◌, drop, false}
use Rattle.sp_tree.specs.Scopes.{inner_env}
use Rattle.sp_tree.specs.NameWalk.{constants_local}
use Rattle.sp_scope.specs.Firsts.{enumerated_first}
use Rattle.sp_scope.proofs.parts.declare_constants.Given as goal

abbrev pub invariant-loop-x : goal.invariant-loop-x
invariant-loop-x l = l.walk.is_lost ≡ false → (l.fn.walk.is_lost ≡ false) ×
    (enumerated_first l.scopes.around l.scopes.local (drop l.x-index l.xs) l.walk.first
    ≡ enumerated_first l.fn.scopes.around l.fn.scopes.local l.xs l.fn.walk.first) ×
    (inner_env l.scopes.around (constants_local l.scopes.local (drop l.x-index l.xs))
    ≡ inner_env l.fn.scopes.around (constants_local l.fn.scopes.local l.xs))
