use Rattle.sp_varsets.proofs.AddedSets.{adds_then}
use Rattle.sp_varsets.proofs.uses.Uses.read_line.Goals as goal

pub returns : goal.returns
returns c = adds_then c.add_target.ensures c.stop.ensures
