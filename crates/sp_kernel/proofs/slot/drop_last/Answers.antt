use Rattle.sp_kernel.proofs.ListEnds.{popped}
use Rattle.sp_kernel.proofs.slot.drop_last.Goals as goal

pub returns : goal.returns
returns c = popped c.pop.result _ _ c.pop.ensures
