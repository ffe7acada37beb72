use Rattle.promise_rows.proofs.RunRows.{a_run_writes_42}
use Rattle.promise_rows.proofs.headline.a_run_writes_42.Goals as goal

pub returns : goal.returns
returns c = λ x out notes text o q told held t. a_run_writes_42 o c.one_verdict.ensures.tree text held t q told
