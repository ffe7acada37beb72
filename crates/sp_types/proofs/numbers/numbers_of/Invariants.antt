use Rattle.std.proofs.Common.{◌≡◌, [], drop, false}
use Rattle.sp_types.specs.Tables.{numbers_from}
use Rattle.sp_types.proofs.numbers.numbers_of.Given as goal

abbrev pub invariant-loop-k : goal.invariant-loop-k
invariant-loop-k l =
    (l.walk.is_lost ≡ false → (l.fn.walk.is_lost ≡ false) × (l.walk.first ≡ l.fn.walk.first) ×
    (numbers_from l.known.items l.next (drop l.k-index l.kinds) ≡ numbers_from [] 0 l.kinds))
