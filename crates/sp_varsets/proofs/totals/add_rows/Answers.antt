use Rattle.std.proofs.Common.{arith}
use Rattle.std.proofs.lemmas.Grind.{common_steps}
use Rattle.sp_varsets.proofs.totals.add_rows.Goals as goal

pub called-preserved : goal.called-preserved
called-preserved c = grind (arith, common_steps)
