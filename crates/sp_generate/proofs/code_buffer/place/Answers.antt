use Rattle.std.proofs.Common.{◌∙◌}
use Rattle.sp_generate.proofs.code_buffer.place.Goals as goal

pub returns : goal.returns
returns c k =
    let (good, (same, count_is)) = c.number.ensures _ c.narrow-n.ensures k in
    (good, (same, count_is ∙ c.count.ensures))
