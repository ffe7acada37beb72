use Rattle.promise_rows.proofs.StatusRows.{accepted_texts_are_told}
use Rattle.promise_rows.proofs.statuses.accepted_texts_are_told.Goals as goal

pub returns : goal.returns
returns c = λ x input out notes text o q held t. accepted_texts_are_told o q text held t
