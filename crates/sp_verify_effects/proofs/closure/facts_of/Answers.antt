use Rattle.sp_verify_effects.proofs.Exact.{facts_closed}
use Rattle.sp_verify_effects.proofs.closure.facts_of.Goals as goal

pub returns : goal.returns
returns c =
    let g = c.args.g.now in
    let known = c.requires.known in
    facts_closed g.code.now known.kept g.owners.now known.owners c.args.own.now.keys c.requires.own c.args.asked.now
    c.args.rows.now c.new-facts.result c.tell_own.new.facts c.close.new.facts c.requires.follows c.requires.edges
    c.new-facts.ensures c.in-Ok.ensures c.in-Ok-close.ensures
