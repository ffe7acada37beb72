use Rattle.std.proofs.Common.{◌∙◌}
use Rattle.sp_verify_shapes.proofs.ListComparison.{compared}
use Rattle.sp_verify_shapes.proofs.search.compare_all.Goals as goal

pub arrivals-preserved : goal.arrivals-preserved
arrivals-preserved c =
    let before = c.arrivals.invariant in
    let one = compared c.arrivals.search c.place.new.search c.pop.new.self c.in-Some.x
    c.in-Some.ensures c.in-Ok.ensures in
    record {
      keeps = λ parts v1 are. one.keeps parts v1 (before.keeps parts v1 are);
      room = one.room ∙ before.room;
    }

pub arrivals-smaller : goal.arrivals-smaller
arrivals-smaller c = (compared c.arrivals.search c.place.new.search c.pop.new.self c.in-Some.x
    c.in-Some.ensures c.in-Ok.ensures).less
