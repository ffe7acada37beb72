use Rattle.std.proofs.Common.{length, refl, subst}
use Rattle.std.proofs.lemmas.Option.{slice_get_read}
use Rattle.sp_verify_shapes.specs.Asks.{AreAsks}
use Rattle.sp_verify_shapes.proofs.Asking.{asked_more}
use Rattle.sp_verify_shapes.proofs.asks.asked_of.Goals as goal

pub loop-l-preserved : goal.loop-l-preserved
loop-l-preserved c =
    let ls = c.args.layouts.now in
    let j = c.loop-l.l-index in
    asked_more ls c.loop-l.asked c.push.new.self j c.l-item.result c.in-Ok.value c.loop-l.invariant.0
    (slice_get_read ls (length ls) j c.l-item.result refl c.loop-l-test.true c.l-item.is)
    (subst (λ fs. AreAsks fs c.in-Ok.value) c.items.ensures c.in-Ok.ensures) c.loop-l.invariant.1
    c.in-Ok-push.ensures.ok
