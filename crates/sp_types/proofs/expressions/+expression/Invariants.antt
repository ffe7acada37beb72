use Rattle.std.proofs.Common.{◌≡◌, ◌++◌, map, None, false}
use Rattle.std.specs.Vec.Iter.{into_iter_items}
use Rattle.sp_tree.specs.NamedOf.{selectors, selector_of, arguments, argument_of}
use Rattle.sp_tree.specs.CheckedOf as checked
use Rattle.sp_types.specs.CheckedTree.{checked_selectors, checked_actuals, checked_arguments}
use Rattle.sp_types.specs.Kinds.{selected_kind, parameter_kind}
use Rattle.sp_types.specs.Firsts.{selectors_first, actuals_first, standard_first}
use Rattle.sp_types.proofs.expressions.+expression.Given as goal

abbrev pub invariant-type_selectors-loop-x : goal.invariant-type_selectors-loop-x
invariant-type_selectors-loop-x l =
    (goal.iterator-type_selectors-loop-x).can_next l.x-iterator ×
    (goal.iterator-type_selectors-loop-x).is_finite l.x-iterator ×
    (l.walk.is_lost ≡ false → (l.fn.walk.is_lost ≡ false) ×
    (selectors_first l.t l.at l.kind (selectors (map selector_of (into_iter_items l.x-iterator))) l.walk.first
    ≡ selectors_first l.t l.at l.fn.kind (selectors (map selector_of l.fn.xs)) l.fn.walk.first) ×
    (map checked.selector_of l.out.items ++ checked_selectors l.t l.kind
    (selectors (map selector_of (into_iter_items l.x-iterator)))
    ≡ checked_selectors l.t l.fn.kind (selectors (map selector_of l.fn.xs))) ×
    (selected_kind l.t l.kind (selectors (map selector_of (into_iter_items l.x-iterator)))
    ≡ selected_kind l.t l.fn.kind (selectors (map selector_of l.fn.xs))))

abbrev pub invariant-type_actuals-loop-x : goal.invariant-type_actuals-loop-x
invariant-type_actuals-loop-x l =
    (goal.iterator-type_actuals-loop-x).can_next l.x-iterator ×
    (goal.iterator-type_actuals-loop-x).is_finite l.x-iterator ×
    (l.walk.is_lost ≡ false → (l.fn.walk.is_lost ≡ false) ×
    (actuals_first l.t l.formals (arguments (map argument_of (into_iter_items l.x-iterator))) l.walk.first
    ≡ actuals_first l.t l.fn.formals (arguments (map argument_of l.fn.xs)) l.fn.walk.first) ×
    (map checked.actual_of l.out.items ++ checked_actuals l.t l.formals
    (arguments (map argument_of (into_iter_items l.x-iterator)))
    ≡ checked_actuals l.t l.fn.formals (arguments (map argument_of l.fn.xs))))

abbrev pub invariant-type_standard-loop-x : goal.invariant-type_standard-loop-x
invariant-type_standard-loop-x l =
    (goal.iterator-type_standard-loop-x).can_next l.x-iterator ×
    (goal.iterator-type_standard-loop-x).is_finite l.x-iterator ×
    (l.walk.is_lost ≡ false → (l.fn.walk.is_lost ≡ false) ×
    (standard_first l.t l.f (arguments (map argument_of (into_iter_items l.x-iterator))) l.walk.first
    ≡ standard_first l.t l.f (arguments (map argument_of l.fn.xs)) l.fn.walk.first) ×
    (map checked.expression_of l.out.items ++ checked_arguments l.t
    (arguments (map argument_of (into_iter_items l.x-iterator)))
    ≡ checked_arguments l.t (arguments (map argument_of l.fn.xs))) ×
    (parameter_kind l.t l.kind (arguments (map argument_of (into_iter_items l.x-iterator)))
    ≡ parameter_kind l.t None (arguments (map argument_of l.fn.xs))))
