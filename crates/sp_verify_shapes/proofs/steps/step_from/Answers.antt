use Rattle.std.proofs.Common.{sym}
use Rattle.sp_verify_rules.specs.Areas.{Area, instr_at}
use Rattle.sp_verify_rules.specs.Shapes.{instr_shapes}
use Rattle.sp_verify_areas.specs.Only.{LiesOnlyIn}
use Rattle.sp_verify_areas.proofs.OwnerSteps.{ok_map}
use Rattle.sp_verify_shapes.specs.Plans.{by_plan}
use Rattle.sp_verify_shapes.specs.Stacks.{list_of}
use Rattle.sp_verify_shapes.specs.Steps.{IsStep}
use Rattle.sp_verify_shapes.proofs.FormSteps.{wrong_form, right_form}
use Rattle.sp_verify_shapes.proofs.steps.step_from.Goals as goal

pub returns-in-None-planned-clause-goes : goal.returns-in-None-planned-clause-goes
returns-in-None-planned-clause-goes c = λ a l.
    wrong_form c.args.code.now a c.args.p (list_of c.args.stacks.now c.args.s) c.in-Some.instr c.args.stacks.now
    (sym c.in-Some.ensures) (c.in-None-planned.ensures a l)

pub returns-in-Some-planned-clause-goes : goal.returns-in-Some-planned-clause-goes
returns-in-Some-planned-clause-goes c =
    let code = c.args.code.now in
    let p = c.args.p in
    let ss = list_of c.args.stacks.now c.args.s in
    let st = c.carry_out.new.stacks in
    ok_map c.carry_out.result (λ s. IsStep st s (by_plan c.in-Some-planned.plan p ss))
    (λ s. (a : Area) → LiesOnlyIn code p a → IsStep st s (instr_shapes code a (instr_at code p) p ss))
    (λ s h a l. right_form code a p ss c.in-Some.instr st s c.in-Some-planned.plan (sym c.in-Some.ensures)
    (c.in-Some-planned.ensures a l) h) c.carry_out.ensures.goes
