use Rattle.std.proofs.Common.{sym, ◌∙◌}
use Rattle.sp_verify_effects.proofs.Members.{meets_on, meets_here}
use Rattle.sp_verify_effects.proofs.sets.meets.Goals as goal

pub loop-x-preserved : goal.loop-x-preserved
loop-x-preserved c = meets_on c.args.set.now.keys c.args.xs.now c.loop-x.x-index c.loop-x-test.true (sym c.has.ensures
    ∙ c.if-has.false) c.loop-x.invariant

pub returns-then-has : goal.returns-then-has
returns-then-has c = meets_here c.args.set.now.keys c.args.xs.now c.loop-x.x-index c.loop-x-test.true (sym c.has.ensures
    ∙ c.if-has.true) c.loop-x.invariant
