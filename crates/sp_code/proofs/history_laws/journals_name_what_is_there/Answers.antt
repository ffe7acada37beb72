use Rattle.sp_code.specs.PlainStore.{plain}
use Rattle.sp_code.specs.System.{opening_system}
use Rattle.sp_code.proofs.KnownChannels.{system_spoken, offer_there}
use Rattle.sp_code.proofs.NameableRuns.{system_nameable}
use Rattle.sp_code.proofs.OneFault.{one_fault}
use Rattle.sp_code.proofs.history_laws.journals_name_what_is_there.Goals as goal

pub returns-clause-spoken : goal.returns-clause-spoken
returns-clause-spoken k = λ g es s l. system_spoken g es s l

pub returns-clause-offered : goal.returns-clause-offered
returns-clause-offered k = λ g es s q c d stop l e t. offer_there g es s q c d stop l e t

pub returns-clause-nameable : goal.returns-clause-nameable
returns-clause-nameable k = λ g es s lim l. system_nameable g lim es s l

pub returns-clause-fault : goal.returns-clause-fault
returns-clause-fault k = λ g es s i j d e l x y f h. one_fault plain g (opening_system plain g) s es l i j d e x y f h
