use Rattle.std.proofs.Common.{◌∙◌, arith}
use Rattle.sp_verify_shapes.proofs.AlikeLists.{named}
use Rattle.sp_verify_shapes.proofs.names.Names.get.Goals as goal

pub returns : goal.returns
returns c = λ st h.
    let some = c.if-n-eq0.false in
    named st c.args.self.now.of c.args.n c.copied.result h (omega (arith, some)) (c.copied.ensures ∙ c.get.ensures)
