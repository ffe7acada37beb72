use Rattle.sp_execute.proofs.Conclusions.{concluded}
use Rattle.sp_execute.proofs.conclusion.conclude.Goals as goal

pub returns-clause-about : goal.returns-clause-about
returns-clause-about c = λ g moves shares r. concluded g moves shares c.args.closed r
