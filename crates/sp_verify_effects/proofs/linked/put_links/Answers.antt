use Rattle.sp_verify_shapes.specs.Stacks.{shape_of}
use Rattle.sp_verify_effects.proofs.LinkedLaws.{linked_rest}
use Rattle.sp_verify_effects.proofs.linked.put_links.Goals as goal

pub loop-depth-init : goal.loop-depth-init
loop-depth-init c = (c.requires.there, λ ls rows is linked h. (h, linked))

pub returns-then-is_linked : goal.returns-then-is_linked
returns-then-is_linked c = λ ls rows is linked h. (c.loop-depth.invariant.1 ls rows is linked h).0

pub returns-in-None : goal.returns-in-None
returns-in-None c = λ ls rows is linked h.
    let b = c.loop-depth.invariant.1 ls rows is linked h in
    c.in-Ok.ensures ls c.args.stacks.now rows c.args.layout.now is b.1 b.0

pub loop-depth-preserved : goal.loop-depth-preserved
loop-depth-preserved c = (
  c.in-Some.ensures.1,
  λ ls rows is linked h. let b = c.loop-depth.invariant.1 ls rows is linked h in (
    c.in-Ok.ensures ls c.args.stacks.now rows c.args.layout.now is b.1 b.0,
    linked_rest c.args.stacks.now rows c.args.layout.now c.args.to c.loop-depth.at c.in-Some.below c.loop-depth.depth
        (shape_of c.in-Some._shape) c.in-Some.ensures.0 b.1,
  ),
)

pub returns : goal.returns
returns c = λ ls rows is linked h. (c.loop-depth.invariant.1 ls rows is linked h).0
