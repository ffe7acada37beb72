use Rattle.std.proofs.Common.{arith}
use Rattle.std.proofs.lemmas.Grind.{common_steps}
use Rattle.sp_interfere.proofs.statements.+statement.Goals as goal

pub statements_first-loop-x-preserved : goal.statements_first-loop-x-preserved
statements_first-loop-x-preserved t c = grind (arith, common_steps)
