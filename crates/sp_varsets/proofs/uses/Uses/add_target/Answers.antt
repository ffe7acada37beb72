use Rattle.sp_varsets.proofs.AddedSets.{target_added, went_well}
use Rattle.sp_varsets.proofs.uses.Uses.add_target.Goals as goal

pub returns : goal.returns
returns c = target_added c.args.self.now c.insert.new.self c.is_err.result c.args.variable
    (went_well c.insert.result c.is_err.result c.insert.ensures c.is_err.ensures.value)
