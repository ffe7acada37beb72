use Rattle.promise_rows.proofs.TraceRows.{an_end_is_told}
use Rattle.promise_rows.proofs.traces.an_end_is_told.Goals as goal

pub returns : goal.returns
returns c = λ x out notes text bytes o held journal is e. an_end_is_told c.one_journal_of_a_text.ensures text bytes
    held journal
    is e o
