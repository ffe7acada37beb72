use Rattle.std.proofs.Common.{◌-◌, arith}
use Rattle.sp_verify_shapes.specs.Stacks.{list_of, shape_of}
use Rattle.sp_verify_effects.proofs.WalkLaws.{none_of_rest}
use Rattle.sp_verify_effects.proofs.walks.put_walk.Goals as goal

pub loop-depth-init : goal.loop-depth-init
loop-depth-init c = (c.requires.there, λ P h none. (h, λ i x left l g. none i x left (omega (arith, l)) g))

pub returns-then-has_walk : goal.returns-then-has_walk
returns-then-has_walk c = λ P h none. (c.loop-depth.invariant.1 P h none).0

pub returns-in-None : goal.returns-in-None
returns-in-None c = λ P h none.
    let b = c.loop-depth.invariant.1 P h none in
    c.in-Ok.ensures c.args.stacks.now P b.0 b.1

pub loop-depth-preserved : goal.loop-depth-preserved
loop-depth-preserved c = (
  c.in-Some.ensures.1,
  λ P h none. let st = c.args.stacks.now in
      let b = c.loop-depth.invariant.1 P h none in
      let rest = none_of_rest P c.args.entry (c.args.count - c.loop-depth.depth) (list_of st c.loop-depth.at)
      (list_of st c.in-Some.below) (shape_of c.in-Some._shape) c.in-Some.ensures.0 b.1 in (
        c.in-Ok.ensures st P b.0 b.1,
        λ i x left l g. rest i x left (omega (arith, l)) g,
      ),
)

pub returns : goal.returns
returns c = λ P h none. (c.loop-depth.invariant.1 P h none).0
