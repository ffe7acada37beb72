use Rattle.std.proofs.Common.{refl}
use Rattle.sp_main.proofs.called.Goals as goal

pub returns : goal.returns
returns g c = (c.superpascal-outcome.result, refl, c.superpascal-outcome.ensures)
