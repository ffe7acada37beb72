use Rattle.std.proofs.Common.{sym as back_of, ◌∙◌}
use Rattle.sp_parse.proofs.Rows.{begins_simple_is}
use Rattle.sp_parse.proofs.operators.begins_simple.Goals as goal

pub returns : goal.returns
returns c = begins_simple_is c.args.token _ (back_of c.is.ensures ∙ c.if-is.false)
    (back_of c.is-2.ensures ∙ c.if-is-2.false) c.begins_factor.ensures
