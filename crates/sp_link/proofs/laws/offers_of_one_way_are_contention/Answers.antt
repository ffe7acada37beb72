use Rattle.sp_link.proofs.Contention.{contention_meets, meets_contention}
use Rattle.sp_link.proofs.laws.offers_of_one_way_are_contention.Goals as goal

pub returns-clause-meets : goal.returns-clause-meets
returns-clause-meets k = λ lim t stop d q e. contention_meets lim t stop d q e

pub returns-clause-entry : goal.returns-clause-entry
returns-clause-entry k = λ lim t stop d q m l. meets_contention lim t stop d q m l
