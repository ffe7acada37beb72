use Rattle.promise_rows.proofs.JournalRows.{an_end_is_followed}
use Rattle.promise_rows.proofs.journals.an_end_is_followed.Goals as goal

pub returns : goal.returns
returns c = λ x out notes text bytes o q held t journal is short. an_end_is_followed o c.one_verdict.ensures.tree
    c.one_journal_of_a_text.ensures text bytes held t journal is short q
