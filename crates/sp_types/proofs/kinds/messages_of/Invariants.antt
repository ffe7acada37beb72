use Rattle.std.proofs.Common.{◌≡◌, ◌++◌, map, drop, false}
use Rattle.sp_types.specs.Tables.{type_number}
use Rattle.sp_types.proofs.kinds.messages_of.Given as goal

abbrev pub invariant-loop-k : goal.invariant-loop-k
invariant-loop-k l =
    (l.walk.is_lost ≡ false → (l.fn.walk.is_lost ≡ false) × (l.walk.first ≡ l.fn.walk.first) ×
    (l.out.items ++ map (type_number l.numbers) (drop l.k-index l.kinds)
    ≡ map (type_number l.numbers) l.kinds))
