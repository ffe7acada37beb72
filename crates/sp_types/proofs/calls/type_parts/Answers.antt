use Rattle.std.proofs.Common.{arith}
use Rattle.std.proofs.lemmas.Grind.{common_steps}
use Rattle.sp_types.proofs.ExpectedTypes.{no_part, one_part}
use Rattle.sp_types.proofs.calls.type_parts.Goals as goal

pub loop-x-preserved : goal.loop-x-preserved
loop-x-preserved c = grind (arith, common_steps, one_part)

pub returns : goal.returns
returns c = grind (arith, common_steps, no_part)
