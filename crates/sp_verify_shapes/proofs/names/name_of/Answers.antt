use Rattle.sp_verify_shapes.proofs.AlikeLists.{alike_same}
use Rattle.sp_verify_shapes.proofs.names.name_of.Goals as goal

pub returns-else-are_alike : goal.returns-else-are_alike
returns-else-are_alike c = alike_same c.args.stacks.now c.args.n c.requires.stacks c.requires.some c.requires.there

pub returns-in-Ok : goal.returns-in-Ok
returns-in-Ok c = alike_same c.args.stacks.now c.args.n c.requires.stacks c.requires.some c.requires.there

pub returns-in-Err : goal.returns-in-Err
returns-in-Err c = alike_same c.args.stacks.now c.args.n c.requires.stacks c.requires.some c.requires.there
