use Rattle.sp_verify_effects.proofs.own.tell_own.Goals as goal

pub loop-p-preserved : goal.loop-p-preserved
loop-p-preserved c = c.in-Ok.ensures c.args.facts.now c.loop-p.invariant
