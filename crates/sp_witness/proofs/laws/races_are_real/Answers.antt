use Rattle.sp_witness.proofs.laws.races_are_real.Goals as goal
use Rattle.sp_meaning.proofs.RuleKeepers.{disjoint}
use Rattle.sp_witness.proofs.Real.{real}

pub returns : goal.returns
returns c = λ g turn es n t free along clean w d earlier later least.
    real g (disjoint g free) turn es n t along clean (c.runs_are_silent.ensures g turn es n t along) w d earlier later
    least
