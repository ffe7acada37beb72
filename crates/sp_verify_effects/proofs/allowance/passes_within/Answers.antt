use Rattle.std.proofs.Common.{sym, ◌∙◌}
use Rattle.sp_verify_effects.proofs.Allowing.{passes_called, passes_passed, passes_started}
use Rattle.sp_verify_effects.proofs.allowance.passes_within.Goals as goal

pub returns-in-Started : goal.returns-in-Started
returns-in-Started c = λ t. passes_started c.args.one.now c.args.other.now c.args.edge c.in-Started.is
    (c.is_same_or_within.ensures t)

pub returns-in-Called : goal.returns-in-Called
returns-in-Called c = λ t. passes_called c.args.one.now c.args.other.now c.args.edge c.in-Called.is
    (c.is_same_or_within-in-Called.ensures t)

pub returns-then-stores_within : goal.returns-then-stores_within
returns-then-stores_within c = λ t. passes_passed c.args.one.now c.args.other.now c.args.edge c.in-Passed.is
    (sym c.stores_within.ensures ∙ c.if-stores_within.true) (sym c.loads_within.ensures ∙ t)
