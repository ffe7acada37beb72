use Rattle.std.proofs.Common.{◌∙◌, arith}
use Rattle.std.proofs.lemmas.Grind.{common_steps}
use Rattle.std.specs.Vec.Iter.{into_iter_items}
use Rattle.sp_types.proofs.DeclarationRules.{variables_step}
use Rattle.sp_types.proofs.program.typed_variables.Goals as goal

pub loop-x-preserved : goal.loop-x-preserved
loop-x-preserved c = (
  tt,
  tt,
  λ k.
      let (pushed, same, next_is) = c.sum-i.ensures k in
      let (before, same_first, more_is) = c.push_variable.ensures pushed in
      let (from, first_is, out_is) = c.loop-x.invariant.2 before in (
        from,
        same ∙ same_first ∙ first_is,
        variables_step c.args.kinds.now c.loop-x.i c.sum-i.result c.in-Some.x (into_iter_items c.next.new.self)
            (into_iter_items c.loop-x.x-iterator) c.loop-x.out.items c.push_variable.new.out.items _ out_is
            c.in-Some.ensures.steps.0 more_is next_is,
      ),
)

pub returns : goal.returns
returns c = grind (arith, common_steps)
