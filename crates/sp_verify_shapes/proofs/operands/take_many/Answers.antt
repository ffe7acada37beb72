use Rattle.std.proofs.Common.{◌≡◌, arith}
use Rattle.sp_verify_shapes.proofs.Takings.{none_gone, some_gone, gone_short, gone_all}
use Rattle.sp_verify_shapes.proofs.operands.take_many.Goals as goal

pub shapes-init : goal.shapes-init
shapes-init c = none_gone c.args.stacks.now c.args.s c.args.count c.requires.there

pub shapes-preserved : goal.shapes-preserved
shapes-preserved c =
    some_gone c.args.stacks.now c.args.s c.args.count c.shapes.left c.shapes.rest c.in-Some.jump c.shapes.invariant
    c.in-Some.ensures.1 c.in-Some.ensures.2

pub returns-in-None : goal.returns-in-None
returns-in-None c = gone_short c.args.stacks.now c.args.s c.args.count c.shapes.left c.shapes.rest c.shapes.invariant
    c.shapes-test.true c.in-None.ensures

pub returns : goal.returns
returns c = let e : c.shapes.left ≡ 0 = omega arith in
    gone_all c.args.stacks.now c.args.s c.args.count c.shapes.left c.shapes.rest c.shapes.invariant e
