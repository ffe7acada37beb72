use Rattle.promise_rows.proofs.JournalRows.{long_journals_are_refused}
use Rattle.promise_rows.proofs.journals.long_journals_are_refused.Goals as goal

pub returns : goal.returns
returns c = λ x out notes text bytes o q held t journal long. long_journals_are_refused o q text bytes held t journal
    long
