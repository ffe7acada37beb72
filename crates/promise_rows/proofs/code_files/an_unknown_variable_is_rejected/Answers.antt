use Rattle.promise_rows.proofs.FileRows.{an_unknown_variable_is_rejected}
use Rattle.promise_rows.proofs.code_files.an_unknown_variable_is_rejected.Goals as goal

pub returns : goal.returns
returns c = λ x input out notes bytes o q e held is short. an_unknown_variable_is_rejected o q e bytes held is short
