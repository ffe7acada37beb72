use Rattle.std.proofs.Common.{sym, arith}
use Rattle.sp_types.proofs.SeveralOnChannel.{each_sent}
use Rattle.sp_types.proofs.performs.sent.Goals as goal

pub returns-else-len-eq1 : goal.returns-else-len-eq1
returns-else-len-eq1 c = sym (each_sent c.args.n c.args.at c.args.channel c.args.values (search arith))
