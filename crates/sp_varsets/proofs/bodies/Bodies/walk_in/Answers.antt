use Rattle.sp_varsets.proofs.bodies.Bodies.walk_in.Goals as goal

pub returns : goal.returns
returns c = (c.statement.new.into, c.put_last.ensures, (c.new-uses.result, c.new-uses.ensures, c.statement.ensures))
