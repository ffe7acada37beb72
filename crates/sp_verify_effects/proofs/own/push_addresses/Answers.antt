use Rattle.std.proofs.Common.{◌++◌}
use Rattle.sp_verify_rules.specs.Touches.{addresses}
use Rattle.sp_verify_shapes.specs.Stacks.{list_of}
use Rattle.sp_verify_effects.proofs.Operands.{passed_more}
use Rattle.sp_verify_effects.proofs.own.push_addresses.Goals as goal

pub loop-k-preserved : goal.loop-k-preserved
loop-k-preserved c =
    let st = c.args.stacks.now in
    let n = c.args.count in (
      c.in-Some.ensures.1,
      passed_more c.loop-k.list c.push_shape.new.list (c.args.list.now
          ++ addresses n (list_of st c.args.stack)) n c.loop-k._k c.in-Some.top.0 (list_of st c.loop-k.at)
          (list_of st c.in-Some.top.1)
          (let t = c.loop-k-test.true in t) c.in-Some.ensures.0 c.in-Ok.ensures c.loop-k.invariant.1,
    )
