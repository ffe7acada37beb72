use Rattle.sp_verify_effects.proofs.LinkedLaws.{none_linked}
use Rattle.sp_verify_effects.proofs.linked.none_linked.Goals as goal

pub returns : goal.returns
returns c = λ ls st rows. none_linked ls st rows c.new.result c.new.ensures.empty
