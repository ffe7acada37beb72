use Rattle.std.proofs.Common.{◌∙◌}
use Rattle.sp_verify_shapes.proofs.SearchSteps.{walks_one, sane}
use Rattle.sp_verify_shapes.proofs.search.walk_all.Goals as goal

pub walk-requires-clause-sane : goal.walk-requires-clause-sane
walk-requires-clause-sane c = sane c.args.code.now c.requires.kept c.frontier.search c.pop.new.self c.in-Some.p
    c.in-Some.ensures c.frontier.invariant.stepped

pub frontier-preserved : goal.frontier-preserved
frontier-preserved c =
    let one = walks_one c.args.code.now c.requires.kept c.frontier.search c.pop.new.self c.in-Some.p
    c.in-Some.ensures c.frontier.invariant.stepped c.walk.new.search c.in-Ok.ensures in
    record { stepped = one.stepped; same = one.position_is ∙ c.frontier.invariant.same }

pub frontier-smaller : goal.frontier-smaller
frontier-smaller c = (walks_one c.args.code.now c.requires.kept c.frontier.search c.pop.new.self c.in-Some.p
    c.in-Some.ensures c.frontier.invariant.stepped c.walk.new.search c.in-Ok.ensures).less
