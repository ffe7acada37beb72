use Rattle.promise_rows.proofs.RunRows.{other_programs_are_not_run}
use Rattle.promise_rows.proofs.headline.other_programs_are_not_run.Goals as goal

pub returns : goal.returns
returns c = λ x input out notes text r g o held is wrong e. other_programs_are_not_run o text held g is wrong r e
