use Rattle.sp_varsets.proofs.AddedSets.{adds_then}
use Rattle.sp_varsets.proofs.uses.Uses.assign.Goals as goal

pub returns : goal.returns
returns c = adds_then c.target.ensures c.expression.ensures
