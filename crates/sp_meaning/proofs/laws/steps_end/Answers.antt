use Rattle.sp_meaning.proofs.LawProofs.{bounded}
use Rattle.sp_meaning.proofs.laws.steps_end.Goals as goal

pub returns : goal.returns
returns c = λ g s r q. bounded g s r q
