use Rattle.std.proofs.Common.{◌≡◌, ◌++◌, map, false}
use Rattle.std.specs.Vec.Iter.{into_iter_items}
use Rattle.sp_tree.specs.NamedTree.{named_selectors, named_arguments}
use Rattle.sp_tree.specs.NamedOf as named
use Rattle.sp_tree.specs.SyntaxOf.{selectors, selector_of, arguments, argument_of}
use Rattle.sp_scope.specs.Firsts.{selectors_first, arguments_first}
use Rattle.sp_scope.proofs.expressions.+expression.Given as goal

abbrev pub invariant-name_selectors-loop-x : goal.invariant-name_selectors-loop-x
invariant-name_selectors-loop-x l =
    (goal.iterator-name_selectors-loop-x).can_next l.x-iterator ×
    (goal.iterator-name_selectors-loop-x).is_finite l.x-iterator ×
    (l.walk.is_lost ≡ false → (l.fn.walk.is_lost ≡ false) ×
    (selectors_first l.scopes (selectors (map selector_of (into_iter_items l.x-iterator))) l.walk.first
    ≡ selectors_first l.scopes (selectors (map selector_of l.fn.xs)) l.fn.walk.first) ×
    (map named.selector_of l.out.items ++ named_selectors l.scopes
    (selectors (map selector_of (into_iter_items l.x-iterator)))
    ≡ named_selectors l.scopes (selectors (map selector_of l.fn.xs))))

abbrev pub invariant-name_arguments-loop-x : goal.invariant-name_arguments-loop-x
invariant-name_arguments-loop-x l =
    (goal.iterator-name_arguments-loop-x).can_next l.x-iterator ×
    (goal.iterator-name_arguments-loop-x).is_finite l.x-iterator ×
    (l.walk.is_lost ≡ false → (l.fn.walk.is_lost ≡ false) ×
    (arguments_first l.scopes l.flags l.rest (arguments (map argument_of (into_iter_items l.x-iterator))) l.walk.first
    ≡ arguments_first l.scopes l.fn.flags l.rest (arguments (map argument_of l.fn.xs)) l.fn.walk.first) ×
    (map named.argument_of l.out.items ++ named_arguments l.scopes
    (arguments (map argument_of (into_iter_items l.x-iterator)))
    ≡ named_arguments l.scopes (arguments (map argument_of l.fn.xs))))
