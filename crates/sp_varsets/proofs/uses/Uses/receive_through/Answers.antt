use Rattle.sp_varsets.proofs.AddedSets.{adds_then, from_empty, merged}
use Rattle.sp_varsets.proofs.uses.Uses.receive_through.Goals as goal

pub returns : goal.returns
returns c x start e f = adds_then (merged (from_empty e f) c.merge.ensures)
    (adds_then c.target.ensures c.stop.ensures)
