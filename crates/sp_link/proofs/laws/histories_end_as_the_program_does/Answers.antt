use Rattle.sp_code.specs.Control.{control_at_start}
use Rattle.sp_code.specs.PlainStore.{plain}
use Rattle.sp_code.specs.System.{opening_system}
use Rattle.sp_code.proofs.Legal.{legal_reaches}
use Rattle.sp_link.specs.Premises.{run_by}
use Rattle.sp_link.proofs.Histories.{history_means, history_output, history_held, history_ends}
use Rattle.sp_link.proofs.laws.histories_end_as_the_program_does.Goals as goal

pub returns-clause-means : goal.returns-clause-means
returns-clause-means k = λ g moves shares pause ready ns l.
    (let r = legal_reaches plain (run_by g moves shares pause) control_at_start
    (opening_system plain (run_by g moves shares pause)) ns l in history_means g moves shares pause ready ns r.0 r.1)

pub returns-clause-output : goal.returns-clause-output
returns-clause-output k = λ g moves shares pause ready ns t r n s a. history_output g moves shares pause ready ns t r n
    s a

pub returns-clause-held : goal.returns-clause-held
returns-clause-held k = λ g moves shares pause ready ns t r n s a q m bs at out. history_held g moves shares pause ready
    ns t r n s a q m bs at out

pub returns-clause-ends : goal.returns-clause-ends
returns-clause-ends k = λ g moves shares pause ready ns l n s a e h.
    (let r = legal_reaches plain (run_by g moves shares pause) control_at_start
    (opening_system plain (run_by g moves shares pause)) ns l in
    history_ends g moves shares pause ready ns r.0 r.1 n s a e h)
