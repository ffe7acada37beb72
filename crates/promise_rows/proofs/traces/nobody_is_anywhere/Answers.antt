use Rattle.promise_rows.proofs.TraceRows.{nobody_is_anywhere}
use Rattle.promise_rows.proofs.traces.nobody_is_anywhere.Goals as goal

pub returns : goal.returns
returns c = λ x out notes text bytes o held journal is e. nobody_is_anywhere c.one_journal_of_a_text.ensures text
    bytes held
    journal is e o
