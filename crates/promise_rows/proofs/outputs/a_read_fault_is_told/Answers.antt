use Rattle.promise_rows.proofs.WritingRows.{a_read_fault_is_told}
use Rattle.promise_rows.proofs.outputs.a_read_fault_is_told.Goals as goal

pub returns : goal.returns
returns c = λ x words input out notes o e. a_read_fault_is_told o e
