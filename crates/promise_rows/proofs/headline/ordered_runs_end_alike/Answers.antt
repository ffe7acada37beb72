use Rattle.promise_rows.proofs.RunRows.{ordered_runs_end_alike}
use Rattle.promise_rows.proofs.headline.ordered_runs_end_alike.Goals as goal

pub returns : goal.returns
returns c = λ x input out notes text r o held e v. ordered_runs_end_alike o text held r e v
