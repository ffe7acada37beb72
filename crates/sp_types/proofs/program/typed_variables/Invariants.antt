use Rattle.std.proofs.Common.{◌≡◌, ◌++◌, drop, false}
use Rattle.std.specs.Vec.Iter.{into_iter_items}
use Rattle.sp_types.specs.CheckedTree.{checked_variables}
use Rattle.sp_types.proofs.program.typed_variables.Given as goal

abbrev pub invariant-loop-x : goal.invariant-loop-x
invariant-loop-x l =
    (goal.iterator-loop-x).can_next l.x-iterator ×
    (goal.iterator-loop-x).is_finite l.x-iterator ×
    (l.walk.is_lost ≡ false → (l.fn.walk.is_lost ≡ false) × (l.walk.first ≡ l.fn.walk.first) ×
    (l.out.items ++ checked_variables (drop l.i l.kinds) (into_iter_items l.x-iterator)
    ≡ checked_variables l.kinds l.fn.variables))
