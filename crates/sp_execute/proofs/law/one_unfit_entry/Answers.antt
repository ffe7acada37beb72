use Rattle.sp_execute.proofs.Prefixes.{not_both, one_entry}
use Rattle.sp_execute.proofs.law.one_unfit_entry.Goals as goal

pub returns-clause-first : goal.returns-clause-first
returns-clause-first c = one_entry

pub returns-clause-not_both : goal.returns-clause-not_both
returns-clause-not_both c = not_both
