use Rattle.sp_race.proofs.RunVerdicts.{one_verdict}
use Rattle.sp_race.proofs.judge_laws.verdicts_are_exact.Goals as goal

pub returns : goal.returns
returns c = one_verdict
