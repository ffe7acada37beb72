use Rattle.std.proofs.Common.{◌∙◌}
use Rattle.sp_interfere.proofs.MoreItems.{more_repeats}
use Rattle.sp_interfere.proofs.sites.repeats_first.Goals as goal

pub each-preserved : goal.each-preserved
each-preserved c = more_repeats c.args.s.now c.args.args.now c.each.i c.index-args-i.result c.each.first
    c.repeat_first-first.result c.each-test.true c.index-args-i.is c.repeat_first-first.ensures ∙ c.each.invariant
