use Rattle.std.proofs.Common.{length, refl}
use Rattle.std.proofs.lemmas.Option.{slice_get_read}
use Rattle.sp_verify_effects.proofs.Owns.{children_more}
use Rattle.sp_verify_effects.proofs.own.tell_children.Goals as goal

pub loop-k-preserved : goal.loop-k-preserved
loop-k-preserved c =
    let ts = c.args.children.now in
    let k = c.loop-k.k in
    children_more c.args.asked.now c.args.facts.now c.loop-k.facts c.tell_child.new.facts c.args.area k
    c.index-children-k.result ts
    (slice_get_read ts (length ts) k c.index-children-k.result refl c.loop-k-test.true c.index-children-k.is)
    c.loop-k.invariant c.in-Ok.ensures
