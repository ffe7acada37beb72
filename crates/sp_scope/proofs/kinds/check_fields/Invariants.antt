use Rattle.std.proofs.Common.{◌≡◌, drop, false}
use Rattle.sp_scope.specs.Fields.{names_behind, fields_held}
use Rattle.sp_scope.proofs.kinds.check_fields.Given as goal

abbrev pub invariant-loop-x : goal.invariant-loop-x
invariant-loop-x l = l.walk.is_lost ≡ false → (l.fn.walk.is_lost ≡ false) ×
    (fields_held l.names.keys (drop l.x-index l.xs) l.walk.first ≡ fields_held l.fn.names.keys l.xs l.fn.walk.first) ×
    (names_behind l.names.keys (drop l.x-index l.xs) ≡ names_behind l.fn.names.keys l.xs)
