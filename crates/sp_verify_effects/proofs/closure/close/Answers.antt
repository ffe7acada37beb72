use Rattle.std.proofs.Common.{sym, ◌∙◌}
use Rattle.sp_verify_effects.proofs.FactEdges.{closes_more, closed_now}
use Rattle.sp_verify_effects.proofs.closure.close.Goals as goal

pub returns-in-None : goal.returns-in-None
returns-in-None c = closed_now c.args.asked.now c.args.rows.now c.args.own.now.keys c.args.facts.now c.loop-i.facts
    c.loop-i.i (sym c.at.ensures ∙ c.in-None.is) c.loop-i.invariant

pub loop-i-preserved : goal.loop-i-preserved
loop-i-preserved c =
    closes_more c.args.asked.now c.args.rows.now c.args.own.now.keys c.args.facts.now c.loop-i.facts c.spread.new.facts
    c.loop-i.i c.in-Some.fact (sym c.at.ensures ∙ c.in-Some.is) c.loop-i.invariant c.in-Ok.ensures
