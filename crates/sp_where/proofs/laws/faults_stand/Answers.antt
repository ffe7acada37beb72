use Rattle.sp_where.proofs.ProcessPairs.{faults_are_true}
use Rattle.sp_where.proofs.laws.faults_stand.Goals as goal

pub returns : goal.returns
returns f = λ tree input limits moves shares pause es t n s a constants marks i d e fits.
    faults_are_true tree input limits moves shares pause es t n s a constants marks i d e fits
