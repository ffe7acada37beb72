use Rattle.std.proofs.Common.{rules, ◌∙◌, sym, arith}
use Rattle.sp_verify_rules.specs.NameRules.{answer_cells}
use Rattle.sp_verify_areas.proofs.Beginnings.{ends_before}
use Rattle.std.proofs.lemmas.Grind.{common_steps}
use Rattle.sp_verify_areas.proofs.layouts.begins_with.Goals as goal

pub returns-in-None : goal.returns-in-None
returns-in-None c = sym (ends_before c.loop-k.k c.args.formals.now
    (answer_cells c.args.answer) c.args.sizes.now c.loop-k-test.true (search rules)) ∙ c.loop-k.invariant

pub loop-k-preserved : goal.loop-k-preserved
loop-k-preserved c = grind (arith, common_steps)
