use Rattle.superpascal.proofs.Parts.{told_by}
use Rattle.superpascal.proofs.runs.tell_run.Goals as goal

pub returns-in-Witness : goal.returns-in-Witness
returns-in-Witness g c = told_by _ c.args.telling _ c.args.ran c.witnessed.result c.in-Witness.is c.witnessed.ensures
