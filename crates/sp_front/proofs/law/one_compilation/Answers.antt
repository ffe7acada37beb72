use Rattle.sp_front.proofs.PhaseAnswers.{accepted_apart, first_once}
use Rattle.sp_front.proofs.law.one_compilation.Goals as goal

pub returns-clause-refusal : goal.returns-clause-refusal
returns-clause-refusal c = λ text a b x y. first_once c.one_answer.ensures.tree c.one_answer.ensures.not_both text
    (c.one_answer.ensures.refusal text) a b x y

pub returns-clause-not_both : goal.returns-clause-not_both
returns-clause-not_both c = λ text p r h b. accepted_apart c.one_answer.ensures.tree c.one_answer.ensures.not_both text
    p r h b
