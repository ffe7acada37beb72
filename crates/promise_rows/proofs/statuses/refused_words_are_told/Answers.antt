use Rattle.promise_rows.proofs.StatusRows.{refused_words_are_told}
use Rattle.promise_rows.proofs.statuses.refused_words_are_told.Goals as goal

pub returns : goal.returns
returns c = λ x input out notes o q. refused_words_are_told o q
