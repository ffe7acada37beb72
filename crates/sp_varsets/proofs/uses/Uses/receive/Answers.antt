use Rattle.sp_varsets.proofs.AddedSets.{adds_then}
use Rattle.sp_varsets.proofs.uses.Uses.receive.Goals as goal

pub returns : goal.returns
returns c = adds_then c.expression.ensures (adds_then c.target.ensures c.stop.ensures)
