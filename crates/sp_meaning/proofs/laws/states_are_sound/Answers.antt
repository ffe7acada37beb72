use Rattle.sp_meaning.proofs.LawProofs.{sound}
use Rattle.sp_meaning.proofs.laws.states_are_sound.Goals as goal

pub returns : goal.returns
returns c = λ g s r. sound g s r
