use Rattle.sp_race.proofs.SilentWaiters as silent
use Rattle.sp_race.proofs.judge_laws.runs_are_silent.Goals as goal

pub returns : goal.returns
returns c g turn es n t along = silent.waiters_are_silent g turn es n t along
