use Rattle.sp_verify_effects.proofs.FactEdges.{along_more}
use Rattle.sp_verify_effects.proofs.closure.spread_row.Goals as goal

pub loop-k-preserved : goal.loop-k-preserved
loop-k-preserved c =
    along_more c.args.facts.now c.loop-k.facts c.spread_one.new.facts c.args.asked.now c.args.row.now c.args.own
    c.args.effect c.loop-k.k c.edge_at-edge.result c.edge_at-edge.ensures c.loop-k.invariant c.in-Ok.ensures
