use Rattle.sp_meaning.proofs.Fronts.{longest_is, only}
use Rattle.sp_meaning.proofs.laws.longest_fronts_are_exact.Goals as goal

pub returns-clause-is_one : goal.returns-clause-is_one
returns-clause-is_one c = λ g qs. longest_is g qs

pub returns-clause-is_only : goal.returns-clause-is_only
returns-clause-is_only c = λ g qs n t f. only g qs n t f
