use Rattle.sp_tree.proofs.OneTree.{one_program}
use Rattle.sp_tree.proofs.grammar_laws.one_tree.Goals as goal

pub returns : goal.returns
returns c = λ text ts p q x y. one_program text ts p q x y
