use Rattle.std.proofs.Common.{arith}
use Rattle.std.proofs.lemmas.Grind.{common_steps}
use Rattle.sp_varsets.proofs.walk.Walk.total.Goals as goal

pub returns-clause-slots : goal.returns-clause-slots
returns-clause-slots c = grind (arith, common_steps)

pub returns-clause-pool : goal.returns-clause-pool
returns-clause-pool c = grind (arith, common_steps)

pub returns-clause-set : goal.returns-clause-set
returns-clause-set c = grind (arith, common_steps)
