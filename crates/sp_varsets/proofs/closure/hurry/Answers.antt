use Rattle.sp_varsets.proofs.Paths.{follows_then}
use Rattle.sp_varsets.proofs.closure.hurry.Goals as goal

pub steps-preserved : goal.steps-preserved
steps-preserved c = follows_then c.steps.invariant c.in-Ok.ensures
