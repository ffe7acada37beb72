use Rattle.sp_types.proofs.Laws.{first_of_all}
use Rattle.sp_types.proofs.law.first_is_least.Goals as goal

pub returns : goal.returns
returns c = first_of_all
