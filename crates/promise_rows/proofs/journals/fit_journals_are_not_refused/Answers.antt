use Rattle.promise_rows.proofs.JournalRows.{fit_journals_are_not_refused, runs_follow_none}
use Rattle.promise_rows.proofs.journals.fit_journals_are_not_refused.Goals as goal

pub returns-clause-followed : goal.returns-clause-followed
returns-clause-followed c = λ x out notes text bytes o held t journal is short e. fit_journals_are_not_refused o
    c.one_verdict.ensures.tree
    c.one_journal_of_a_text.ensures text bytes held t journal is short e

pub returns-clause-run : goal.returns-clause-run
returns-clause-run c = λ x input out notes o e. runs_follow_none o e
