use Rattle.std.proofs.Common.{arith}
use Rattle.std.proofs.lemmas.Grind.{common_steps}
use Rattle.sp_types.proofs.statement_counts.+count.Goals as goal

pub statements_counted-loop-s-preserved : goal.statements_counted-loop-s-preserved
statements_counted-loop-s-preserved t c = grind (arith, common_steps)

pub statements_counted-returns : goal.statements_counted-returns
statements_counted-returns t c = grind (arith, common_steps)

pub arms_counted-returns : goal.arms_counted-returns
arms_counted-returns t c = grind (arith, common_steps)

pub branches_counted-returns : goal.branches_counted-returns
branches_counted-returns t c = grind (arith, common_steps)
