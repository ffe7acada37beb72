use Rattle.std.proofs.Common.{arith}
use Rattle.std.proofs.lemmas.Grind.{common_steps}
use Rattle.sp_interfere.proofs.expressions.+expression.Goals as goal

pub actuals_first-loop-x-preserved : goal.actuals_first-loop-x-preserved
actuals_first-loop-x-preserved t c = grind (arith, common_steps)

pub variable_first-loop-x-preserved : goal.variable_first-loop-x-preserved
variable_first-loop-x-preserved t c = grind (arith, common_steps)
