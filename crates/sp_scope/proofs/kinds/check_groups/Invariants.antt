use Rattle.std.proofs.Common.{◌≡◌, [], drop, false}
use Rattle.sp_scope.specs.Fields.{groups_held}
use Rattle.sp_scope.proofs.kinds.check_groups.Given as goal

abbrev pub invariant-loop-g : goal.invariant-loop-g
invariant-loop-g l = l.walk.is_lost ≡ false → (l.fn.walk.is_lost ≡ false) ×
    (groups_held l.scopes l.own l.names.keys (drop l.g-index l.gs) l.walk.first
    ≡ groups_held l.scopes l.own [] l.gs l.fn.walk.first)
