use Rattle.std.proofs.Common.{get_or}
use Rattle.std.proofs.lemmas.Option.{slice_get-get_or}
use Rattle.sp_verify_effects.proofs.FactEdges.{pair_more}
use Rattle.sp_verify_effects.proofs.variables.put_own.Goals as goal

pub loop-i-preserved : goal.loop-i-preserved
loop-i-preserved c =
    let xs = c.args.variables.now in
    let i = c.loop-i.i in
    pair_more c.args.own.now.keys c.loop-i.own.keys c.insert.new.self.keys c.args.entry i (get_or xs i 0) xs
    (slice_get-get_or xs i 0 c.loop-i-test.true) c.loop-i.invariant c.in-Ok.ensures.updates.0
