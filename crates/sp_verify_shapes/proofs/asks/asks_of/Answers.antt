use Rattle.std.proofs.lemmas.Option.{slice_get-get_or}
use Rattle.sp_code.specs.declared.code.Formal.TheVariants as formal
use Rattle.sp_verify_shapes.proofs.Asking.{asks_more}
use Rattle.sp_verify_shapes.proofs.asks.asks_of.Goals as goal

pub loop-k-preserved : goal.loop-k-preserved
loop-k-preserved c =
    let fs = c.args.formals.now in
    let k = c.loop-k.k in
    asks_more fs c.loop-k.asks c.push.new.self c.ask_over-ask.result k c.loop-k.invariant.0 c.loop-k.invariant.1
    (c.ask_over-ask.ensures fs c.loop-k.invariant.1 (slice_get-get_or fs k (formal.Value 0) c.loop-k-test.true))
    c.in-Ok.ensures.ok
