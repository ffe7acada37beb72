use Rattle.std.proofs.Common.{◌∙◌, ap, Some}
use Rattle.sp_verify_shapes.proofs.Forms.{plain_at}
use Rattle.sp_verify_shapes.proofs.plans.planned.Goals as goal

pub returns-in_default : goal.returns-in_default
returns-in_default c = λ a l. ap Some c.plain.ensures ∙ plain_at c.args.code.now a c.args.instr c.in_default.not-Addr
    c.in_default.not-Deref c.in_default.not-Call
