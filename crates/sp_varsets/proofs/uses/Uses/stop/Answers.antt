use Rattle.sp_varsets.proofs.AddedSets.{stopped, went_well}
use Rattle.sp_varsets.proofs.uses.Uses.stop.Goals as goal

pub returns : goal.returns
returns c = stopped c.args.self.now c.insert.new.self c.is_err.result
    (went_well c.insert.result c.is_err.result c.insert.ensures c.is_err.ensures.value)
