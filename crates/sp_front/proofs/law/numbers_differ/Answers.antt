use Rattle.sp_front.proofs.StatementNumbers.{text_numbers_differ}
use Rattle.sp_front.proofs.law.numbers_differ.Goals as goal

pub returns : goal.returns
returns c = text_numbers_differ
