use Rattle.promise_rows.proofs.StatusRows.{long_inputs_are_refused}
use Rattle.promise_rows.proofs.statuses.long_inputs_are_refused.Goals as goal

pub returns : goal.returns
returns c = λ x input out notes text o q held t long. long_inputs_are_refused o q text held t long
