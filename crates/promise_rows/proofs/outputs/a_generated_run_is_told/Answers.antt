use Rattle.promise_rows.proofs.WritingRows.{a_generated_run_is_told}
use Rattle.promise_rows.proofs.outputs.a_generated_run_is_told.Goals as goal

pub returns : goal.returns
returns c = λ x input out notes r o e printed count done verdict n. a_generated_run_is_told o r e printed count done
    verdict n
