use Rattle.sp_front.proofs.PhaseAnswers.{numbers, parents}
use Rattle.sp_front.proofs.law.numbered_trees.Goals as goal

pub returns-clause-parents : goal.returns-clause-parents
returns-clause-parents c = λ text p h. parents c.names_number_the_tree.ensures text p h

pub returns-clause-numbers : goal.returns-clause-numbers
returns-clause-numbers c = λ text p h. numbers text p h
