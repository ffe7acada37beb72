use Rattle.std.proofs.Common.{◌≡◌, map, drop}
use Rattle.sp_tree.specs.CheckedOf.{selectors, selector_of, actuals, actual_of}
use Rattle.sp_interfere.specs.BlockRules.{rules_in}
use Rattle.sp_interfere.specs.Walk.{selectors_first, actuals_first}
use Rattle.sp_interfere.proofs.expressions.+expression.Given as goal

abbrev pub invariant-actuals_first-loop-x : goal.invariant-actuals_first-loop-x
invariant-actuals_first-loop-x l =
    actuals_first (rules_in l.block) (actuals (map actual_of (drop l.x-index l.args)))
    l.first ≡ actuals_first (rules_in l.block) (actuals (map actual_of l.args))
    l.fn.first

abbrev pub invariant-variable_first-loop-x : goal.invariant-variable_first-loop-x
invariant-variable_first-loop-x l =
    selectors_first (rules_in l.block)
    (selectors (map selector_of (drop l.x-index l.v.selectors))) l.first
    ≡ selectors_first (rules_in l.block)
    (selectors (map selector_of l.v.selectors)) l.fn.first
