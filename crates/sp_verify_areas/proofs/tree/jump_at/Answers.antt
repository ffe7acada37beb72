use Rattle.std.proofs.Common.{sym}
use Rattle.sp_verify_areas.proofs.tree.jump_at.Goals as goal

pub returns-in-Some : goal.returns-in-Some
returns-in-Some c = λ ls lists are l. (are c.args.node c.in-Some.n.now (sym c.in-Some.ensures)).jump
