use Rattle.sp_verify_effects.proofs.Owns.{none_lies}
use Rattle.sp_verify_effects.proofs.own.tell_at.Goals as goal

pub returns-in-None : goal.returns-in-None
returns-in-None c = none_lies c.args.g.now.code.now c.args.p c.args.asked.now c.args.facts.now c.in-None.ensures
