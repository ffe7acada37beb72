use Rattle.std.proofs.Common.{◌≡◌, drop, false}
use Rattle.sp_types.specs.DeclarationFirsts.{constants_first}
use Rattle.sp_types.proofs.declarations.check_constants.Given as goal

abbrev pub invariant-loop-c : goal.invariant-loop-c
invariant-loop-c l = l.walk.is_lost ≡ false → (l.fn.walk.is_lost ≡ false) ×
    (constants_first l.known (drop l.c-index l.constants) l.walk.first
    ≡ constants_first l.known l.constants l.fn.walk.first)
