use Rattle.std.proofs.Common.{sym, arith}
use Rattle.sp_types.proofs.SeveralOnChannel.{each_received}
use Rattle.sp_types.proofs.performs.received.Goals as goal

pub returns-else-len-eq1 : goal.returns-else-len-eq1
returns-else-len-eq1 c = sym (each_received c.args.n c.args.at c.args.channel c.args.variables (search arith))
