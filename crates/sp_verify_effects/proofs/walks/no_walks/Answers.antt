use Rattle.sp_verify_effects.proofs.WalkLaws.{no_walk}
use Rattle.sp_verify_effects.proofs.walks.no_walks.Goals as goal

pub returns : goal.returns
returns c = no_walk c.new.result c.new.ensures.empty
