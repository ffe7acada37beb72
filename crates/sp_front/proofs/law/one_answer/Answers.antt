use Rattle.sp_front.proofs.OneAnswer.{checked_once, program_once, refused_once, kept_or_broken}
use Rattle.sp_front.proofs.law.one_answer.Goals as goal

pub returns-clause-refusal : goal.returns-clause-refusal
returns-clause-refusal c = λ text a b x y. refused_once c.one_verdict.ensures.tree text c.one_verdict.ensures.refusal
    c.one_verdict.ensures.not_both a b x y

pub returns-clause-tree : goal.returns-clause-tree
returns-clause-tree c = λ text p q x y. checked_once c.one_verdict.ensures.tree text p q x y

pub returns-clause-not_both : goal.returns-clause-not_both
returns-clause-not_both c = λ text p r x y. kept_or_broken c.one_verdict.ensures.tree text
    c.one_verdict.ensures.not_both p r x y

pub returns-clause-program : goal.returns-clause-program
returns-clause-program c = λ text p q x y. program_once c.one_verdict.ensures.tree text p q x y
