use Rattle.sp_race.proofs.laws.order_conditions_agree.Goals as goal
use Rattle.sp_race.proofs.Completion.{ordered_known, known_ordered}

pub returns : goal.returns
returns c = λ es. (ordered_known es, known_ordered es)
