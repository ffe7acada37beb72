use Rattle.sp_meaning.proofs.Instance.{superpascal_keeps}
use Rattle.sp_meaning.proofs.laws.steps_are_local.Goals as goal

pub returns : goal.returns
returns c = λ g. superpascal_keeps g
