use Rattle.sp_tree.proofs.OneList.{one_verdict, one_meaning, not_both}
use Rattle.sp_tree.proofs.grammar_laws.one_verdict.Goals as goal

pub returns-clause-refusal : goal.returns-clause-refusal
returns-clause-refusal c = λ text a b x y. one_verdict text a b x y

pub returns-clause-tree : goal.returns-clause-tree
returns-clause-tree c = λ text p q x y. one_meaning text p q x y

pub returns-clause-not_both : goal.returns-clause-not_both
returns-clause-not_both c = λ text p r x y. not_both text p r x y
