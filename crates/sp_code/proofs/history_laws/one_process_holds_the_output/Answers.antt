use Rattle.sp_code.proofs.Holders.{one_holder}
use Rattle.sp_code.proofs.history_laws.one_process_holds_the_output.Goals as goal

pub returns : goal.returns
returns k = λ g ns s safe r. one_holder g s ns (λ es t l. safe es t l) r
