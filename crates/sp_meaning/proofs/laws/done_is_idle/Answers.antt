use Rattle.sp_meaning.proofs.LawProofs.{done_idle}
use Rattle.sp_meaning.proofs.laws.done_is_idle.Goals as goal

pub returns : goal.returns
returns c = λ g s r d. done_idle g s r d
