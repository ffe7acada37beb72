use Rattle.std.proofs.Common.{◌≡◌, ◌++◌, false}
use Rattle.std.specs.Vec.Iter.{into_iter_items}
use Rattle.sp_types.specs.Tables.{kinds_from}
use Rattle.sp_types.specs.DeclarationFirsts.{kinds_first}
use Rattle.sp_types.proofs.kinds.kinds_of.Given as goal

abbrev pub invariant-loop-k : goal.invariant-loop-k
invariant-loop-k l =
    (goal.iterator-loop-k).can_next l.k-iterator ×
    (goal.iterator-loop-k).is_finite l.k-iterator ×
    (l.walk.is_lost ≡ false → (l.fn.walk.is_lost ≡ false) ×
    (kinds_first l.known (into_iter_items l.k-iterator) l.walk.first
    ≡ kinds_first l.known l.fn.kinds l.fn.walk.first) ×
    (l.out.items ++ kinds_from l.numbers l.known (into_iter_items l.k-iterator)
    ≡ kinds_from l.numbers l.known l.fn.kinds))
