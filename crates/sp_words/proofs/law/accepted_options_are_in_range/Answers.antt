use Rattle.sp_words.proofs.RangeLemmas.{accepted_in_range}
use Rattle.sp_words.proofs.law.accepted_options_are_in_range.Goals as goal

pub returns-clause-accepted : goal.returns-clause-accepted
returns-clause-accepted c = λ words command e. accepted_in_range words command e
