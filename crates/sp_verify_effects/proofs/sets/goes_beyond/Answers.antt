use Rattle.std.proofs.Common.{sym, ◌∙◌}
use Rattle.sp_verify_effects.proofs.Members.{beyond_on, beyond_here}
use Rattle.sp_verify_effects.proofs.sets.goes_beyond.Goals as goal

pub loop-x-preserved : goal.loop-x-preserved
loop-x-preserved c = beyond_on c.args.set.now.keys c.args.xs.now c.loop-x.x-index c.loop-x-test.true (sym c.has.ensures
    ∙ c.if-not-has.false) c.loop-x.invariant

pub returns-then-not-has : goal.returns-then-not-has
returns-then-not-has c = beyond_here c.args.set.now.keys c.args.xs.now c.loop-x.x-index c.loop-x-test.true
    (sym c.has.ensures ∙ c.if-not-has.true) c.loop-x.invariant
