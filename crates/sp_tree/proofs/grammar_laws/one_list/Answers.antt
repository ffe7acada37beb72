use Rattle.sp_tree.proofs.OneList.{one_list}
use Rattle.sp_tree.proofs.grammar_laws.one_list.Goals as goal

pub returns : goal.returns
returns c = λ text ts us x y. one_list text x y
