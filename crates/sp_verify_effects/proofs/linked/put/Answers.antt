use Rattle.sp_verify_effects.proofs.LinkedLaws.{link_put}
use Rattle.sp_verify_effects.proofs.linked.put.Goals as goal

pub returns-in-Ok : goal.returns-in-Ok
returns-in-Ok c = λ ls st rows l is linked h.
    link_put ls st rows c.args.linked.now c.insert.new.self c.args.block c.args.to c.args.list c.args.depth l
    c.in-Ok.ensures.updates.0 is linked h
