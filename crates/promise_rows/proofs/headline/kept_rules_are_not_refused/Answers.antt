use Rattle.promise_rows.proofs.RunRows.{kept_rules_are_not_refused}
use Rattle.promise_rows.proofs.headline.kept_rules_are_not_refused.Goals as goal

pub returns : goal.returns
returns c = λ x input out notes text o held t. kept_rules_are_not_refused o c.one_verdict.ensures.tree
    c.one_verdict.ensures.not_both
    text held t
