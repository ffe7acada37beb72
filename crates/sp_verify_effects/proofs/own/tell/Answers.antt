use Rattle.std.proofs.Common.{get_or}
use Rattle.sp_verify_effects.proofs.Owns.{told_more, read}
use Rattle.sp_verify_effects.proofs.own.tell.Goals as goal

pub loop-i-preserved : goal.loop-i-preserved
loop-i-preserved c =
    let xs = c.args.variables.now in
    let i = c.loop-i.i in
    let y = get_or xs i 0 in
    let e = read xs i c.loop-i-test.true in
    told_more c.args.asked.now c.args.facts.now c.loop-i.facts c.tell_one.new.facts c.args.area i y c.args.stores xs
    c.effect_of-effect.result e c.effect_of-effect.ensures c.loop-i.invariant c.in-Ok.ensures
