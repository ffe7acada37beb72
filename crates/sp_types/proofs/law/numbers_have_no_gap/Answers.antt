use Rattle.sp_types.proofs.NextNumbers.{statement_next}
use Rattle.sp_types.proofs.law.numbers_have_no_gap.Goals as goal

pub returns : goal.returns
returns c = statement_next
