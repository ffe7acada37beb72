use Rattle.sp_meaning.proofs.LawProofs.{are_parallel}
use Rattle.sp_meaning.proofs.laws.active_are_parallel.Goals as goal

pub returns : goal.returns
returns c = λ g s r a b x y apart. are_parallel g s r a b x y apart
