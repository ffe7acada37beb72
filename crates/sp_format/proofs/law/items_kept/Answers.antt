use Rattle.sp_format.proofs.Follows.{canonical_items}
use Rattle.sp_format.proofs.Accepts.{accepted, is_own, not_refused}
use Rattle.sp_format.proofs.law.items_kept.Goals as goal

pub returns-clause-items : goal.returns-clause-items
returns-clause-items c = λ text is t x. canonical_items t x

pub returns-clause-accepted : goal.returns-clause-accepted
returns-clause-accepted c = λ text out t p. accepted t p

pub returns-clause-again : goal.returns-clause-again
returns-clause-again c = λ text out t p. is_own t p

pub returns-clause-not_refused : goal.returns-clause-not_refused
returns-clause-not_refused c = λ text out r t p b. not_refused r t p b
