use Rattle.std.proofs.Common.{sym, ap, ◌∙◌, ◌∷◌, [], ◌-◌, arith}
use Rattle.std.specs.List.{list_any}
use Rattle.sp_verify_rules.specs.Touches.{topmost_variable}
use Rattle.sp_verify_shapes.specs.Stacks.{list_of, shape_of}
use Rattle.sp_verify_effects.proofs.WalkLaws.{any_split, none_of_more, none_of_none}
use Rattle.sp_verify_effects.proofs.walks.addresses_left.Goals as goal

pub loop-depth-init : goal.loop-depth-init
loop-depth-init c = (c.requires.there, λ P h e none i x left l g. none i x left (omega (arith, l)) g)

pub returns-then-has_walk : goal.returns-then-has_walk
returns-then-has_walk c = λ P h e. c.loop-depth.invariant.1 P h e
    (c.has_walk.ensures c.if-has_walk.true c.args.stacks.now P h)

pub returns-in-None : goal.returns-in-None
returns-in-None c = λ P h e. c.loop-depth.invariant.1 P h e
    (none_of_none P c.args.entry (c.args.count - c.loop-depth.depth) (list_of c.args.stacks.now c.loop-depth.at)
    c.in-None.ensures)

pub loop-depth-preserved : goal.loop-depth-preserved
loop-depth-preserved c = (
  c.in-Some.ensures.1,
  λ P h e none.
      let st = c.args.stacks.now in
      let m = c.args.entry in
      let s = shape_of c.in-Some.shape in
      let none_now = ap (list_any (P m)) (sym c.in-Ok.ensures) ∙ e in
      let r = any_split (P m) c.loop-depth.left (topmost_variable (s ∷ [])) none_now in
      c.loop-depth.invariant.1 P h r.0
      (none_of_more P m (c.args.count - c.loop-depth.depth) (list_of st c.loop-depth.at) (list_of st c.in-Some.below) s
      c.in-Some.ensures.0 r.1 (λ i x left l g. none i x left (omega (arith, l)) g)),
)

pub returns : goal.returns
returns c = λ P h e. c.loop-depth.invariant.1 P h e
    (λ i x left l g. let z = c.loop-depth-test.false in absurd (omega (arith, l, z)))
