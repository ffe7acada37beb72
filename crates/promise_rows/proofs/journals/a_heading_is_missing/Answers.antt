use Rattle.promise_rows.proofs.JournalRows.{a_heading_is_missing}
use Rattle.promise_rows.proofs.journals.a_heading_is_missing.Goals as goal

pub returns : goal.returns
returns c = λ x out notes text rest o q held t journal short. a_heading_is_missing o q text rest held t journal short
