use Rattle.definition_rows.proofs.ParallelRows.{not_disjoint}
use Rattle.definition_rows.proofs.parallel.writes_to_one_variable_are_seen.Goals as goal

pub returns : goal.returns
returns c = not_disjoint
