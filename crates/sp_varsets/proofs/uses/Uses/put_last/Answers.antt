use Rattle.sp_varsets.proofs.AddedSets.{went_well}
use Rattle.sp_varsets.proofs.BlockRows.{rows_put}
use Rattle.sp_varsets.proofs.uses.Uses.put_last.Goals as goal

pub returns : goal.returns
returns c = rows_put c.args.bodies.now c.args.self c.push.new.self c.push-2.new.self c.push-3.new.self c.push-4.new.self
    c.is_err.result c.is_err-2.result c.is_err-3.result c.is_err-4.result
    (went_well c.push.result c.is_err.result c.push.ensures.ok c.is_err.ensures.value)
    (went_well c.push-2.result c.is_err-2.result c.push-2.ensures.ok c.is_err-2.ensures.value)
    (went_well c.push-3.result c.is_err-3.result c.push-3.ensures.ok c.is_err-3.ensures.value)
    (went_well c.push-4.result c.is_err-4.result c.push-4.ensures.ok c.is_err-4.ensures.value)
