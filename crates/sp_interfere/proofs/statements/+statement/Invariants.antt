use Rattle.std.proofs.Common.{◌≡◌, map, drop}
use Rattle.sp_tree.specs.CheckedOf.{statements, statement_of, arms, arm_of}
use Rattle.sp_interfere.specs.BlockRules.{rules_in}
use Rattle.sp_interfere.specs.Walk.{statements_first, arms_first}
use Rattle.sp_interfere.proofs.statements.+statement.Given as goal

abbrev pub invariant-statements_first-loop-x : goal.invariant-statements_first-loop-x
invariant-statements_first-loop-x l = statements_first (rules_in l.block)
    (statements (map statement_of (drop l.x-index l.xs))) l.first
    ≡ statements_first (rules_in l.block) (statements (map statement_of l.xs))
    l.fn.first

abbrev pub invariant-arms_first-loop-x : goal.invariant-arms_first-loop-x
invariant-arms_first-loop-x l = arms_first (rules_in l.block)
    (arms (map arm_of (drop l.x-index l.xs))) l.first
    ≡ arms_first (rules_in l.block) (arms (map arm_of l.xs)) l.fn.first
