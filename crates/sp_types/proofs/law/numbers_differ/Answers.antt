use Rattle.sp_types.proofs.StatementNumbers.{numbers_differ}
use Rattle.sp_types.proofs.law.numbers_differ.Goals as goal

pub returns : goal.returns
returns c = numbers_differ
