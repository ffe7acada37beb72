use Rattle.std.proofs.Common.{◌≡◌, ◌++◌, drop, map, false}
use Rattle.sp_tree.specs.NamedTree.{statements_indices, arms_indices, branches_indices}
use Rattle.sp_tree.specs.SyntaxOf.{statements, statement_of, arms, arm_of, branches, branch_of}
use Rattle.sp_scope.proofs.indices.+indices.Given as goal

abbrev pub invariant-push_statements-loop-s : goal.invariant-push_statements-loop-s
invariant-push_statements-loop-s l = l.walk.is_lost ≡ false → (l.fn.walk.is_lost ≡ false) ×
    (l.walk.first ≡ l.fn.walk.first) ×
    (l.out.items ++ statements_indices l.block (statements (map statement_of (drop l.s-index l.ss)))
    ≡ l.fn.out.items ++ statements_indices l.block (statements (map statement_of l.ss)))

abbrev pub invariant-push_arms-loop-a : goal.invariant-push_arms-loop-a
invariant-push_arms-loop-a l = l.walk.is_lost ≡ false → (l.fn.walk.is_lost ≡ false) ×
    (l.walk.first ≡ l.fn.walk.first) ×
    (l.out.items ++ arms_indices l.block (arms (map arm_of (drop l.a-index l.choices)))
    ≡ l.fn.out.items ++ arms_indices l.block (arms (map arm_of l.choices)))

abbrev pub invariant-push_branches-loop-b : goal.invariant-push_branches-loop-b
invariant-push_branches-loop-b l = l.walk.is_lost ≡ false → (l.fn.walk.is_lost ≡ false) ×
    (l.walk.first ≡ l.fn.walk.first) ×
    (l.out.items ++ branches_indices l.block (branches (map branch_of (drop l.b-index l.bs)))
    ≡ l.fn.out.items ++ branches_indices l.block (branches (map branch_of l.bs)))
