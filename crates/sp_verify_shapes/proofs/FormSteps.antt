-- A step by the form of an instruction is a step of the instruction.
use Rattle.std.proofs.Common.{◌≡◌, ap, sym, ◌∙◌, ℕ, List, Option, Some, None}
use Rattle.sp_code.specs.declared.instr.Instr.{Instr}
use Rattle.sp_code.specs.declared.code.Parts.{Parts}
use Rattle.sp_verify_rules.specs.Areas.{Area, on_option, instr_at}
use Rattle.sp_verify_rules.specs.Shapes.{Shape, Wrong, instr_shapes}
use Rattle.sp_verify_shapes.specs.declared.stacks.Stacks.{Stacks}
use Rattle.sp_verify_shapes.specs.declared.plans.Plan.{Plan}
use Rattle.sp_verify_shapes.specs.declared.steps.Step.{Step}
use Rattle.sp_verify_shapes.specs.declared.steps.Step.TheVariants as step
use Rattle.sp_verify_shapes.specs.Plans.{plan_at, by_plan}
use Rattle.sp_verify_shapes.specs.Steps.{IsStep}
use Rattle.sp_verify_shapes.proofs.Forms.{by_form}

module _ (c : Parts) (a : Area) (p : ℕ) (ss : List Shape) (i : Instr) where
  form : (o : Option Plan) → instr_at c p ≡ Some i → o ≡ plan_at c a i
      → instr_shapes c a (instr_at c p) p ss ≡ on_option Wrong o (λ pl. by_plan pl p ss)
  form o e h = ap (λ (z : Option Instr). instr_shapes c a z p ss) e ∙ by_form c a p ss i
      ∙ ap (λ (z : Option Plan). on_option Wrong z (λ pl. by_plan pl p ss)) (sym h)

  pub wrong_form : (st : Stacks) → instr_at c p ≡ Some i → None ≡ plan_at c a i
      → IsStep st step.Wrong (instr_shapes c a (instr_at c p) p ss)
  wrong_form st e h = record { shaped_is = sym (form None e h); held = λ x b. absurd b }

  pub right_form : (st : Stacks) (s : Step) (pl : Plan) → instr_at c p ≡ Some i → Some pl ≡ plan_at c a i
      → IsStep st s (by_plan pl p ss) → IsStep st s (instr_shapes c a (instr_at c p) p ss)
  right_form st s pl e h k = record { shaped_is = k.shaped_is ∙ sym (form (Some pl) e h); held = k.held }
