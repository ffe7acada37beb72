use Rattle.sp_journal.proofs.OneText.{one_journal}
use Rattle.sp_journal.proofs.law.one_journal_of_a_text.Goals as goal

pub returns : goal.returns
returns c = one_journal
