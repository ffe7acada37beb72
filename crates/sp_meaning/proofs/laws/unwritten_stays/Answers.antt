use Rattle.sp_meaning.proofs.LawProofs.{unwritten}
use Rattle.sp_meaning.proofs.laws.unwritten_stays.Goals as goal

pub returns : goal.returns
returns c = λ g s p t e l free. unwritten g s p t e l free
