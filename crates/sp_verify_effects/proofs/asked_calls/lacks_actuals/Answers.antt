use Rattle.std.proofs.Common.{sym, ◌∙◌}
use Rattle.sp_verify_effects.specs.AskedCalls.{lacks_actual}
use Rattle.sp_verify_effects.proofs.Actuals.{any_here, any_on}
use Rattle.sp_verify_effects.proofs.asked_calls.lacks_actuals.Goals as goal

pub loop-x-preserved : goal.loop-x-preserved
loop-x-preserved c =
    any_on (lacks_actual c.args.asked.now c.args.own.now.keys c.args.entry) c.args.xs.now c.loop-x.x-index
    c.loop-x-test.true (sym c.lacks_actual.ensures ∙ c.if-lacks_actual.false) c.loop-x.invariant

pub returns-then-lacks_actual : goal.returns-then-lacks_actual
returns-then-lacks_actual c =
    any_here (lacks_actual c.args.asked.now c.args.own.now.keys c.args.entry) c.args.xs.now c.loop-x.x-index
    c.loop-x-test.true (sym c.lacks_actual.ensures ∙ c.if-lacks_actual.true) c.loop-x.invariant
