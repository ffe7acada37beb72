use Rattle.std.proofs.Common.{◌≡◌, [], drop, false}
use Rattle.sp_types.specs.Tables.{constants_from}
use Rattle.sp_types.proofs.constants.constants_of.Given as goal

abbrev pub invariant-loop-c : goal.invariant-loop-c
invariant-loop-c l =
    (l.walk.is_lost ≡ false → (l.fn.walk.is_lost ≡ false) × (l.walk.first ≡ l.fn.walk.first) ×
    (constants_from l.numbers l.known.items (drop l.c-index l.constants)
    ≡ constants_from l.numbers [] l.constants))
