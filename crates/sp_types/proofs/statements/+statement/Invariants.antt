use Rattle.std.proofs.Common.{◌≡◌, ◌++◌, map, false}
use Rattle.std.specs.Vec.Iter.{into_iter_items}
use Rattle.sp_tree.specs.NamedOf.{statements, statement_of, arms, arm_of, branches, branch_of}
use Rattle.sp_tree.specs.CheckedOf as checked
use Rattle.sp_types.specs.CheckedTree.{checked_statements, checked_arms, checked_branches}
use Rattle.sp_types.specs.Firsts.{statements_first, arms_first, branches_first}
use Rattle.sp_types.specs.TypeWalk.{statements_after, arms_after, branches_after}
use Rattle.sp_types.proofs.statements.+statement.Given as goal

abbrev pub invariant-type_statements-loop-s : goal.invariant-type_statements-loop-s
invariant-type_statements-loop-s l =
    (goal.iterator-type_statements-loop-s).can_next l.s-iterator ×
    (goal.iterator-type_statements-loop-s).is_finite l.s-iterator ×
    (l.walk.is_lost ≡ false → (l.fn.walk.is_lost ≡ false) ×
    (statements_first l.t (statements (map statement_of (into_iter_items l.s-iterator))) l.walk.first
    ≡ statements_first l.fn.t (statements (map statement_of l.fn.ss)) l.fn.walk.first) ×
    (map checked.statement_of l.out.items ++ checked_statements l.t
    (statements (map statement_of (into_iter_items l.s-iterator)))
    ≡ checked_statements l.fn.t (statements (map statement_of l.fn.ss))) ×
    (statements_after l.t (statements (map statement_of (into_iter_items l.s-iterator)))
    ≡ statements_after l.fn.t (statements (map statement_of l.fn.ss))))

abbrev pub invariant-type_arms-loop-x : goal.invariant-type_arms-loop-x
invariant-type_arms-loop-x l =
    (goal.iterator-type_arms-loop-x).can_next l.x-iterator ×
    (goal.iterator-type_arms-loop-x).is_finite l.x-iterator ×
    (l.walk.is_lost ≡ false → (l.fn.walk.is_lost ≡ false) ×
    (arms_first l.t (arms (map arm_of (into_iter_items l.x-iterator))) l.walk.first
    ≡ arms_first l.fn.t (arms (map arm_of l.fn.xs)) l.fn.walk.first) ×
    (map checked.arm_of l.out.items ++ checked_arms l.t (arms (map arm_of (into_iter_items l.x-iterator)))
    ≡ checked_arms l.fn.t (arms (map arm_of l.fn.xs))) ×
    (arms_after l.t (arms (map arm_of (into_iter_items l.x-iterator))) ≡ arms_after l.fn.t (arms (map arm_of l.fn.xs))))

abbrev pub invariant-type_branches-loop-b : goal.invariant-type_branches-loop-b
invariant-type_branches-loop-b l =
    (goal.iterator-type_branches-loop-b).can_next l.b-iterator ×
    (goal.iterator-type_branches-loop-b).is_finite l.b-iterator ×
    (l.walk.is_lost ≡ false → (l.fn.walk.is_lost ≡ false) ×
    (branches_first l.t (branches (map branch_of (into_iter_items l.b-iterator))) l.walk.first
    ≡ branches_first l.fn.t (branches (map branch_of l.fn.bs)) l.fn.walk.first) ×
    (map checked.statement_of l.out.items ++ checked_branches l.t l.at
    (branches (map branch_of (into_iter_items l.b-iterator)))
    ≡ checked_branches l.fn.t l.at (branches (map branch_of l.fn.bs))) ×
    (branches_after l.t (branches (map branch_of (into_iter_items l.b-iterator)))
    ≡ branches_after l.fn.t (branches (map branch_of l.fn.bs))))
