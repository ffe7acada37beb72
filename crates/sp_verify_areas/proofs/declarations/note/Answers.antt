use Rattle.std.proofs.Common.{arith}
use Rattle.std.proofs.lemmas.Grind.{common_steps}
use Rattle.sp_verify_areas.proofs.declarations.note.Goals as goal

pub returns-after-variable-lt2 : goal.returns-after-variable-lt2
returns-after-variable-lt2 c = λ kept. (kept, grind (arith, common_steps))
