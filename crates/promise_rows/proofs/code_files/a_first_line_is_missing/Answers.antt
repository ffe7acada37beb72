use Rattle.promise_rows.proofs.FileRows.{a_first_line_is_missing}
use Rattle.promise_rows.proofs.code_files.a_first_line_is_missing.Goals as goal

pub returns : goal.returns
returns c = λ x input out notes rest o q e held short. a_first_line_is_missing o q e rest held short
