use Rattle.sp_meaning.proofs.laws.rule_keepers_are_disjoint.Goals as goal
use Rattle.sp_meaning.proofs.RuleKeepers.{disjoint}

pub returns : goal.returns
returns c = disjoint
