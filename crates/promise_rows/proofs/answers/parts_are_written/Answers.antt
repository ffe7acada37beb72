use Rattle.promise_rows.proofs.AnsweredRows.{parts_are_written}
use Rattle.promise_rows.proofs.answers.parts_are_written.Goals as goal

pub returns : goal.returns
returns c = λ x words input out notes o e. parts_are_written o
