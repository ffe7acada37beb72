use Rattle.std.proofs.Common.{None, Some, sym, ◌∙◌}
use Rattle.sp_tree.specs.CheckedOf.{program_of}
use Rattle.sp_interfere.proofs.Exact.{verdict}
use Rattle.sp_interfere.proofs.check.check_sets.Goals as goal

pub returns-in-None-clause-verdict : goal.returns-in-None-clause-verdict
returns-in-None-clause-verdict c = λ are rises. verdict (program_of c.args.checked.now) c.args.sets.now are rises None
    (sym c.rules_first.ensures ∙ c.in-None.is)

pub returns-in-Some-clause-verdict : goal.returns-in-Some-clause-verdict
returns-in-Some-clause-verdict c = λ are rises. verdict (program_of c.args.checked.now) c.args.sets.now are rises
    (Some c.in-Some.r) (sym c.rules_first.ensures ∙ c.in-Some.is)
