use Rattle.std.proofs.Common.{◌≡◌, ◌++◌, map, false}
use Rattle.std.specs.Vec.Iter.{into_iter_items}
use Rattle.sp_tree.specs.NamedOf.{arguments, argument_of}
use Rattle.sp_tree.specs.CheckedOf as checked
use Rattle.sp_types.specs.CheckedTree.{argument_variables}
use Rattle.sp_types.specs.Firsts.{each_first, message_first}
use Rattle.sp_types.proofs.performs.type_variables.Given as goal

abbrev pub invariant-loop-x : goal.invariant-loop-x
invariant-loop-x l =
    (goal.iterator-loop-x).can_next l.x-iterator ×
    (goal.iterator-loop-x).is_finite l.x-iterator ×
    (l.walk.is_lost ≡ false → (l.fn.walk.is_lost ≡ false) ×
    (each_first l.t (message_first l.t l.kind) (arguments (map argument_of (into_iter_items l.x-iterator))) l.walk.first
    ≡ each_first l.t (message_first l.t l.kind) (arguments (map argument_of (into_iter_items l.fn.xs)))
    l.fn.walk.first) ×
    (map checked.variable_of l.out.items ++ argument_variables l.t
    (arguments (map argument_of (into_iter_items l.x-iterator)))
    ≡ argument_variables l.t (arguments (map argument_of (into_iter_items l.fn.xs)))))
