use Rattle.promise_rows.proofs.StatusRows.{words_are_accepted}
use Rattle.promise_rows.proofs.statuses.other_words_are_accepted.Goals as goal

pub returns : goal.returns
returns c = λ x input out notes o. words_are_accepted o
