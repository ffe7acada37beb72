use Rattle.sp_meaning.proofs.LawProofs.{named}
use Rattle.sp_meaning.proofs.laws.own_parts_agree.Goals as goal

pub returns : goal.returns
returns c = λ g s r q. named g s r q
