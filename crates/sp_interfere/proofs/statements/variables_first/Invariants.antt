use Rattle.std.proofs.Common.{◌≡◌, map, drop}
use Rattle.sp_tree.specs.CheckedOf.{variable_of}
use Rattle.sp_interfere.specs.BlockRules.{rules_in}
use Rattle.sp_interfere.specs.Walk.{each_first, variable_first}
use Rattle.sp_interfere.proofs.statements.variables_first.Given as goal

abbrev pub invariant-loop-v : goal.invariant-loop-v
invariant-loop-v l = each_first (variable_first (rules_in l.block))
    (map variable_of (drop l.v-index l.vs)) l.first
    ≡ each_first (variable_first (rules_in l.block)) (map variable_of l.vs) l.fn.first
