use Rattle.std.proofs.Common.{◌≡◌, map, drop}
use Rattle.sp_tree.specs.CheckedOf.{expression_of}
use Rattle.sp_interfere.specs.BlockRules.{rules_in}
use Rattle.sp_interfere.specs.Walk.{each_first, expression_first}
use Rattle.sp_interfere.proofs.statements.values_first.Given as goal

abbrev pub invariant-loop-e : goal.invariant-loop-e
invariant-loop-e l = each_first (expression_first (rules_in l.block))
    (map expression_of (drop l.e-index l.es)) l.first
    ≡ each_first (expression_first (rules_in l.block)) (map expression_of l.es)
    l.fn.first
