use Rattle.promise_rows.proofs.WritingRows.{a_deadlock_is_told}
use Rattle.promise_rows.proofs.outputs.a_deadlock_is_told.Goals as goal

pub returns : goal.returns
returns c = λ x input out notes r o told e last verdict n. a_deadlock_is_told o told r e last verdict n
