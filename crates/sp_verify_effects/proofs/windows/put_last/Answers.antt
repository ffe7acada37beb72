use Rattle.std.proofs.Common.{sym, ◌∙◌}
use Rattle.sp_verify_shapes.specs.Stacks.{shape_of}
use Rattle.sp_verify_effects.proofs.WindowLaws.{last_other, last_put}
use Rattle.sp_verify_effects.proofs.windows.put_last.Goals as goal

pub returns-in-None : goal.returns-in-None
returns-in-None c = λ st is h. last_other st c.args.n (shape_of c.args.shape) c.args.last.now is
    (sym c.variable_of.ensures ∙ c.in-None.is) h

pub returns-in-Ok : goal.returns-in-Ok
returns-in-Ok c = λ st is h. last_put st c.args.n c.in-Some.x (shape_of c.args.shape) c.args.last.now
    c.insert.new.self is (sym c.variable_of.ensures ∙ c.in-Some.is) c.in-Ok.ensures.updates.0 h
