use Rattle.std.proofs.Common.{length, refl}
use Rattle.std.proofs.lemmas.Option.{slice_get_read}
use Rattle.sp_verify_effects.proofs.EdgeRows.{starts_more}
use Rattle.sp_verify_effects.proofs.edges.link_children.Goals as goal

pub loop-k-preserved : goal.loop-k-preserved
loop-k-preserved c =
    let ts = c.args.children.now in
    let k = c.loop-k.k in
    starts_more c.args.rows.now c.loop-k.rows c.link.new.rows ts c.args.to k c.index-children-k.result
    (slice_get_read ts (length ts) k c.index-children-k.result refl c.loop-k-test.true c.index-children-k.is)
    c.loop-k.invariant c.in-Ok.ensures
