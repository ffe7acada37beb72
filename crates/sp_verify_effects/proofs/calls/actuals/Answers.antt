use Rattle.std.proofs.Common.{sym, ◌∙◌, ◌++◌, ap, length, List, ℕ, Option}
use Rattle.sp_verify_shapes.specs.Stacks.{list_of, shape_of}
use Rattle.sp_verify_effects.specs.Calls.{actuals, list_of_option}
use Rattle.sp_verify_effects.proofs.Actuals.{all_listed, one_listed}
use Rattle.sp_verify_effects.proofs.calls.actuals.Goals as goal

pub returns-in-None : goal.returns-in-None
returns-in-None c =
    let fs = c.args.formals.now in
    let ss = list_of c.args.stacks.now c.args.stack in
    c.loop-i.invariant.so_far
    ∙ all_listed fs ss c.loop-i.i (length fs) c.loop-i.auto.i-end (sym c.loop-i.invariant.left ∙ c.in-None.ensures)

pub loop-i-preserved : goal.loop-i-preserved
loop-i-preserved c =
    let fs = c.args.formals.now in
    let ss = list_of c.args.stacks.now c.args.stack in
    let h = c.in-Some.ensures in
    let i = c.loop-i.i in
    let r = one_listed fs ss (list_of c.args.stacks.now c.in-Some.rest) i c.formal_at-formal.result
    (shape_of c.in-Some.shape) c.formal_at-formal.ensures (sym c.loop-i.invariant.left ∙ h.0) in
    record {
      there = h.1;
      left = sym r.1;
      so_far = c.in-Ok.ensures
          ∙ ap (λ (ys : List ℕ). ys ++ list_of_option c.actual_of.result) c.loop-i.invariant.so_far
          ∙ ap (λ (o : Option ℕ). actuals fs ss i ++ list_of_option o) c.actual_of.ensures ∙ r.0;
    }
