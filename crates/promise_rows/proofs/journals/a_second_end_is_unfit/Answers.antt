use Rattle.promise_rows.proofs.JournalRows.{a_second_end_is_unfit}
use Rattle.promise_rows.proofs.journals.a_second_end_is_unfit.Goals as goal

pub returns : goal.returns
returns c = λ x out notes text bytes o q held t journal is short. a_second_end_is_unfit o q text bytes held t journal
    is short
