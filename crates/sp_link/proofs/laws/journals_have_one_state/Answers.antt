use Rattle.sp_link.proofs.OneState.{one_state}
use Rattle.sp_link.proofs.laws.journals_have_one_state.Goals as goal

pub returns : goal.returns
returns c = λ g turn es n k s t h i. one_state g turn es n k s t h i
