use Rattle.sp_base.specs.Order.{channels_ordered}
use Rattle.sp_base.proofs.name.ChanName.order.Goals as goal

pub returns-clause-laws : goal.returns-clause-laws
returns-clause-laws c = channels_ordered
