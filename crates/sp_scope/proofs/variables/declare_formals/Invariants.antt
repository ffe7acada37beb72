use Rattle.std.proofs.Common.{◌≡◌, drop, false}
use Rattle.sp_tree.specs.Scopes.{inner_env}
use Rattle.sp_tree.specs.NameWalk.{formals_local}
use Rattle.sp_scope.specs.Firsts.{formals_first}
use Rattle.sp_scope.proofs.variables.declare_formals.Given as goal

abbrev pub invariant-loop-f : goal.invariant-loop-f
invariant-loop-f l = l.walk.is_lost ≡ false → (l.fn.walk.is_lost ≡ false) ×
    (formals_first l.scopes.around l.scopes.local (drop l.f-index l.fs) l.walk.first
    ≡ formals_first l.fn.scopes.around l.fn.scopes.local l.fs l.fn.walk.first) ×
    (inner_env l.scopes.around (formals_local l.scopes.local (drop l.f-index l.fs))
    ≡ inner_env l.fn.scopes.around (formals_local l.fn.scopes.local l.fs))
