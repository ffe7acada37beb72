use Rattle.std.proofs.Common.{arith}
use Rattle.sp_tree.specs.PlainOf.{program_of}
use Rattle.sp_generate.proofs.LengthSums.{whole}
use Rattle.sp_generate.proofs.program_length.length.Goals as goal

pub loop-b-init : goal.loop-b-init
loop-b-init c = (omega arith, whole (program_of c.args.program.now))
