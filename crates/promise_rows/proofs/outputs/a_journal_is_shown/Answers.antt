use Rattle.promise_rows.proofs.WritingRows.{a_journal_is_shown}
use Rattle.promise_rows.proofs.outputs.a_journal_is_shown.Goals as goal

pub returns : goal.returns
returns c = λ x input out notes r o e j n. a_journal_is_shown o r e j n
