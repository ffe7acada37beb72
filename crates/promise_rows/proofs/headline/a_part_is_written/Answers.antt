use Rattle.promise_rows.proofs.RunRows.{a_part_is_written}
use Rattle.promise_rows.proofs.headline.a_part_is_written.Goals as goal

pub returns : goal.returns
returns c = λ x out notes text r o held t e six. a_part_is_written o c.one_verdict.ensures.tree text held t r e
