use Rattle.std.proofs.Common.{◌≡◌, ◌++◌, map, false}
use Rattle.std.specs.Vec.Iter.{into_iter_items}
use Rattle.sp_tree.specs.Scopes.{inner_env}
use Rattle.sp_tree.specs.NameWalk.{statements_local, arms_local, branches_local}
use Rattle.sp_tree.specs.NamedTree.{named_statements, named_arms, named_branches}
use Rattle.sp_tree.specs.NamedOf as named
use Rattle.sp_tree.specs.SyntaxOf.{statements, statement_of, arms, arm_of, branches, branch_of}
use Rattle.sp_scope.specs.Firsts.{statements_first, arms_first, branches_first}
use Rattle.sp_scope.proofs.statements.+statement.Given as goal

abbrev pub invariant-name_statements-loop-s : goal.invariant-name_statements-loop-s
invariant-name_statements-loop-s l =
    (goal.iterator-name_statements-loop-s).can_next l.s-iterator ×
    (goal.iterator-name_statements-loop-s).is_finite l.s-iterator ×
    (l.walk.is_lost ≡ false → (l.fn.walk.is_lost ≡ false) ×
    (statements_first l.scopes.around l.scopes.local (statements (map statement_of (into_iter_items l.s-iterator)))
    l.walk.first ≡ statements_first l.fn.scopes.around l.fn.scopes.local (statements (map statement_of l.fn.ss))
    l.fn.walk.first) ×
    (map named.statement_of l.out.items ++ named_statements l.scopes.around l.scopes.local
    (statements (map statement_of (into_iter_items l.s-iterator)))
    ≡ named_statements l.fn.scopes.around l.fn.scopes.local (statements (map statement_of l.fn.ss))) ×
    (inner_env l.scopes.around (statements_local l.scopes.local
    (statements (map statement_of (into_iter_items l.s-iterator))))
    ≡ inner_env l.fn.scopes.around (statements_local l.fn.scopes.local (statements (map statement_of l.fn.ss)))))

abbrev pub invariant-name_arms-loop-a : goal.invariant-name_arms-loop-a
invariant-name_arms-loop-a l =
    (goal.iterator-name_arms-loop-a).can_next l.a-iterator ×
    (goal.iterator-name_arms-loop-a).is_finite l.a-iterator ×
    (l.walk.is_lost ≡ false → (l.fn.walk.is_lost ≡ false) ×
    (arms_first l.scopes.around l.scopes.local (arms (map arm_of (into_iter_items l.a-iterator))) l.walk.first
    ≡ arms_first l.fn.scopes.around l.fn.scopes.local (arms (map arm_of l.fn.choices)) l.fn.walk.first) ×
    (map named.arm_of l.out.items ++ named_arms l.scopes.around l.scopes.local
    (arms (map arm_of (into_iter_items l.a-iterator)))
    ≡ named_arms l.fn.scopes.around l.fn.scopes.local (arms (map arm_of l.fn.choices))) ×
    (inner_env l.scopes.around (arms_local l.scopes.local (arms (map arm_of (into_iter_items l.a-iterator))))
    ≡ inner_env l.fn.scopes.around (arms_local l.fn.scopes.local (arms (map arm_of l.fn.choices)))))

abbrev pub invariant-name_branches-loop-b : goal.invariant-name_branches-loop-b
invariant-name_branches-loop-b l =
    (goal.iterator-name_branches-loop-b).can_next l.b-iterator ×
    (goal.iterator-name_branches-loop-b).is_finite l.b-iterator ×
    (l.walk.is_lost ≡ false → (l.fn.walk.is_lost ≡ false) ×
    (branches_first l.scopes.around l.scopes.local (branches (map branch_of (into_iter_items l.b-iterator)))
    l.walk.first ≡ branches_first l.fn.scopes.around l.fn.scopes.local (branches (map branch_of l.fn.bs))
    l.fn.walk.first) ×
    (map named.branch_of l.out.items ++ named_branches l.scopes.around l.scopes.local
    (branches (map branch_of (into_iter_items l.b-iterator)))
    ≡ named_branches l.fn.scopes.around l.fn.scopes.local (branches (map branch_of l.fn.bs))) ×
    (inner_env l.scopes.around (branches_local l.scopes.local (branches (map branch_of (into_iter_items l.b-iterator))))
    ≡ inner_env l.fn.scopes.around (branches_local l.fn.scopes.local (branches (map branch_of l.fn.bs)))))
