use Rattle.sp_race.proofs.RunVerdicts.{run_verdict}
use Rattle.sp_race.proofs.judge_laws.verdicts_hold_of_runs.Goals as goal

pub returns : goal.returns
returns c g = run_verdict g
