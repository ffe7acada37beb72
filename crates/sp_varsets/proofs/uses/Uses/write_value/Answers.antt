use Rattle.sp_varsets.proofs.AddedSets.{adds_then}
use Rattle.sp_varsets.proofs.uses.Uses.write_value.Goals as goal

pub returns : goal.returns
returns c = adds_then c.add_target.ensures (adds_then c.expression.ensures
    (adds_then c.width.ensures c.stop.ensures))
