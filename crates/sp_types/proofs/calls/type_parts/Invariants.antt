use Rattle.std.proofs.Common.{◌≡◌, ◌++◌, map, false}
use Rattle.std.specs.Vec.Iter.{into_iter_items}
use Rattle.sp_tree.specs.NamedOf.{arguments, argument_of}
use Rattle.sp_tree.specs.CheckedOf as checked
use Rattle.sp_types.specs.Expectations.{part_forms, part_first}
use Rattle.sp_types.specs.Firsts.{each_first}
use Rattle.sp_types.proofs.calls.type_parts.Given as goal

abbrev pub invariant-loop-x : goal.invariant-loop-x
invariant-loop-x l =
    (goal.iterator-loop-x).can_next l.x-iterator ×
    (goal.iterator-loop-x).is_finite l.x-iterator ×
    (l.walk.is_lost ≡ false → (l.fn.walk.is_lost ≡ false) ×
    (each_first l.t (part_first l.t l.part) (arguments (map argument_of (into_iter_items l.x-iterator))) l.walk.first
    ≡ each_first l.t (part_first l.t l.part) (arguments (map argument_of l.fn.xs)) l.fn.walk.first) ×
    (map checked.statement_form_of l.out.items
    ++ part_forms l.t l.part (arguments (map argument_of (into_iter_items l.x-iterator)))
    ≡ part_forms l.t l.part (arguments (map argument_of l.fn.xs))))
