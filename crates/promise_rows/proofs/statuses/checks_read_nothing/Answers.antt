use Rattle.promise_rows.proofs.StatusRows.{never_too_long, unread}
use Rattle.promise_rows.proofs.statuses.checks_read_nothing.Goals as goal

pub returns-clause-unread : goal.returns-clause-unread
returns-clause-unread c = λ x input out notes o. unread o

pub returns-clause-never : goal.returns-clause-never
returns-clause-never c = λ x input out notes o. never_too_long o
