use Rattle.std.proofs.Common.{◌≡◌, map, drop, false}
use Rattle.sp_tree.specs.NamedOf.{statements, statement_of, arms, arm_of, branches, branch_of}
use Rattle.sp_types.specs.TypeWalk.{statements_counted, arms_counted, branches_counted}
use Rattle.sp_types.proofs.statement_counts.+count.Given as goal

abbrev pub invariant-statements_counted-loop-s : goal.invariant-statements_counted-loop-s
invariant-statements_counted-loop-s l =
    (l.walk.is_lost ≡ false → (l.fn.walk.is_lost ≡ false) × (l.walk.first ≡ l.fn.walk.first) ×
    (statements_counted l.k (statements (map statement_of (drop l.s-index l.ss)))
    ≡ statements_counted l.fn.k (statements (map statement_of l.ss))))

abbrev pub invariant-arms_counted-loop-x : goal.invariant-arms_counted-loop-x
invariant-arms_counted-loop-x l =
    (l.walk.is_lost ≡ false → (l.fn.walk.is_lost ≡ false) × (l.walk.first ≡ l.fn.walk.first) ×
    (arms_counted l.k (arms (map arm_of (drop l.x-index l.xs)))
    ≡ arms_counted l.fn.k (arms (map arm_of l.xs))))

abbrev pub invariant-branches_counted-loop-x : goal.invariant-branches_counted-loop-x
invariant-branches_counted-loop-x l =
    (l.walk.is_lost ≡ false → (l.fn.walk.is_lost ≡ false) × (l.walk.first ≡ l.fn.walk.first) ×
    (branches_counted l.k (branches (map branch_of (drop l.x-index l.xs)))
    ≡ branches_counted l.fn.k (branches (map branch_of l.xs))))
