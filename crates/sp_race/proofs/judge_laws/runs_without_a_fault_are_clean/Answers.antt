use Rattle.sp_race.proofs.judge_laws.runs_without_a_fault_are_clean.Goals as goal
use Rattle.sp_race.proofs.RunVerdicts.{clean_with_end}

pub returns : goal.returns
returns c = clean_with_end
