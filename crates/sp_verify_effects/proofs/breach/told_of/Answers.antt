use Rattle.sp_verify_effects.proofs.Exact.{told_done}
use Rattle.sp_verify_effects.proofs.breach.told_of.Goals as goal

pub returns : goal.returns
returns c =
    let g = c.args.g.now in
    let known = c.requires.known in
    told_done g.code.now known.kept g.owners.now known.owners c.args.asked.now c.new-facts.result c.tell_own.new.facts
    c.new-facts.ensures c.in-Ok.ensures
