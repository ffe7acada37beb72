use Rattle.sp_verify_shapes.proofs.SearchLaws.{then_steps, then_compares, less_room}
use Rattle.sp_verify_shapes.proofs.search.follow.Goals as goal

pub walk_all-requires-clause-stepped : goal.walk_all-requires-clause-stepped
walk_all-requires-clause-stepped c =
    then_steps c.args.code.now c.requires.kept c.compare_all.new.search
    (c.in-Ok.ensures.keeps c.args.code.now c.requires.kept c.levels.invariant.compared)
    c.in-Ok.ensures.none

pub levels-preserved : goal.levels-preserved
levels-preserved c = record {
  compared = then_compares c.args.code.now c.requires.kept c.walk_all.new.search c.in-Ok-walk_all.ensures.stepped
      c.in-Ok-walk_all.ensures.still;
  still = c.in-Ok-walk_all.ensures.still;
}

pub levels-smaller : goal.levels-smaller
levels-smaller c =
    less_room c.levels.search c.compare_all.new.search c.walk_all.new.search c.in-Ok.ensures.room
    c.levels.invariant.still c.if-is_empty.ensures.1 c.in-Ok-walk_all.ensures.position_is
