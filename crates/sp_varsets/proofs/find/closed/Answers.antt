use Rattle.std.proofs.Common.{◌∙◌}
use Rattle.sp_varsets.proofs.find.closed.Goals as goal

pub returns : goal.returns
returns c =
    let k = c.in-Ok-close.ensures in
    record { rows = k.rows ∙ c.in-Ok.ensures.rows; closes = (c.in-Ok.value, c.in-Ok.ensures.members, k) }
