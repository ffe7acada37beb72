use Rattle.sp_varsets.specs.Members.{union_has}
use Rattle.sp_varsets.proofs.Words.{all_zero}
use Rattle.sp_varsets.proofs.union.VarUnion.new.Goals as goal

pub returns-clause-empty : goal.returns-clause-empty
unfolding union_has
returns-clause-empty c x = all_zero 129 _
