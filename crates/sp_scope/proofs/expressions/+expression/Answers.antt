use Rattle.std.proofs.Common.{arith}
use Rattle.std.proofs.lemmas.Grind.{common_steps}
use Rattle.sp_scope.proofs.expressions.+expression.Goals as goal

pub name_selectors-loop-x-preserved : goal.name_selectors-loop-x-preserved
name_selectors-loop-x-preserved t c = grind (arith, common_steps)

pub name_arguments-loop-x-preserved : goal.name_arguments-loop-x-preserved
name_arguments-loop-x-preserved t c = grind (arith, common_steps)

pub name_arguments-returns : goal.name_arguments-returns
name_arguments-returns t c = grind (arith, common_steps)

pub name_selectors-returns : goal.name_selectors-returns
name_selectors-returns t c = grind (arith, common_steps)
