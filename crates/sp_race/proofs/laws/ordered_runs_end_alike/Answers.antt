use Rattle.sp_race.proofs.laws.ordered_runs_end_alike.Goals as goal
use Rattle.sp_meaning.proofs.RuleKeepers.{disjoint}
use Rattle.sp_race.proofs.OrderedSchedules.{each_ends_alike}

pub returns : goal.returns
returns c = λ g turn es n t free. each_ends_alike g turn es n t (disjoint g free)
