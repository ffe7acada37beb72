use Rattle.sp_base.specs.Order.{names_ordered}
use Rattle.sp_base.proofs.name.ProcName.order.Goals as goal

pub returns-clause-laws : goal.returns-clause-laws
returns-clause-laws c = names_ordered
