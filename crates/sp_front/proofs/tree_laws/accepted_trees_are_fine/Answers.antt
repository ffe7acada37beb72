use Rattle.sp_front.proofs.AcceptedFacts.{accepted_formed, accepted_small, accepted_free, accepted_fine}
use Rattle.sp_front.proofs.tree_laws.accepted_trees_are_fine.Goals as goal

pub returns-clause-formed : goal.returns-clause-formed
returns-clause-formed c = λ text g accepted. accepted_formed text g accepted

pub returns-clause-small : goal.returns-clause-small
returns-clause-small c = λ text g accepted. accepted_small text g accepted

pub returns-clause-free : goal.returns-clause-free
returns-clause-free c = λ text g accepted. accepted_free text g accepted

pub returns-clause-fine : goal.returns-clause-fine
returns-clause-fine c = λ text g accepted moves shares f q b at. accepted_fine text g accepted moves shares f q b at
