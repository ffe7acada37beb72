use Rattle.std.proofs.Common.{sym, ◌∙◌}
use Rattle.sp_verify_effects.specs.Calls.{is_outer}
use Rattle.sp_verify_effects.proofs.Actuals.{any_here, any_on}
use Rattle.sp_verify_effects.proofs.calls.meets_outer.Goals as goal

pub loop-x-preserved : goal.loop-x-preserved
loop-x-preserved c =
    any_on (is_outer c.args.effects.now c.args.entry) c.args.xs.now c.loop-x.x-index
    c.loop-x-test.true (sym c.is_outer.ensures ∙ c.if-is_outer.false) c.loop-x.invariant

pub returns-then-is_outer : goal.returns-then-is_outer
returns-then-is_outer c =
    any_here (is_outer c.args.effects.now c.args.entry) c.args.xs.now c.loop-x.x-index
    c.loop-x-test.true (sym c.is_outer.ensures ∙ c.if-is_outer.true) c.loop-x.invariant
