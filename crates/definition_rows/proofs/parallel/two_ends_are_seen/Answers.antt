use Rattle.definition_rows.proofs.ParallelRows.{no_common_end}
use Rattle.definition_rows.proofs.parallel.two_ends_are_seen.Goals as goal

pub returns : goal.returns
returns c = no_common_end
