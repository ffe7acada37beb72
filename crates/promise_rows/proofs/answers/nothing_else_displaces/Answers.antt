use Rattle.promise_rows.proofs.AnsweredRows.{due_answer, quiet_writes}
use Rattle.promise_rows.proofs.answers.nothing_else_displaces.Goals as goal

pub returns-clause-quiet : goal.returns-clause-quiet
returns-clause-quiet c = λ x words input out notes o e p q. quiet_writes o e p q

pub returns-clause-due : goal.returns-clause-due
returns-clause-due c = λ x words input out notes o n. due_answer o n
