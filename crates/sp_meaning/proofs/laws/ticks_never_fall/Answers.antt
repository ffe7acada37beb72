use Rattle.sp_meaning.proofs.LawProofs.{not_fallen}
use Rattle.sp_meaning.proofs.laws.ticks_never_fall.Goals as goal

pub returns : goal.returns
returns c = λ g s r p t e q. not_fallen g s r p t e q
