use Rattle.promise_rows.proofs.RunRows.{unknown_names_are_refused}
use Rattle.promise_rows.proofs.headline.unknown_names_are_refused.Goals as goal

pub returns : goal.returns
returns c = λ x input out notes text o q e held t. unknown_names_are_refused o q e text held t
