use Rattle.sp_verify_areas.proofs.BlockNodes.{all_led}
use Rattle.sp_verify_areas.proofs.block_nodes.search.Goals as goal

pub returns-then-not-found : goal.returns-then-not-found
returns-then-not-found c =
    all_led c.args.code.now.layouts c.sweep.new.grown c.in-Ok-sweep.ensures.just
    (c.in-Ok-sweep.ensures.unchanged c.if-not-found.true).1
