use Rattle.promise_rows.proofs.FileRows.{long_files_are_refused}
use Rattle.promise_rows.proofs.code_files.long_files_are_refused.Goals as goal

pub returns : goal.returns
returns c = λ x input out notes bytes o q e held long. long_files_are_refused o q e bytes held long
