use Rattle.std.proofs.Common.{refl}
use Rattle.sp_where.proofs.ProcessPairs.{process_is_true}
use Rattle.sp_where.proofs.laws.values_stand.Goals as goal

pub returns : goal.returns
returns f = λ tree input limits moves shares pause es t n s a constants marks i joins m h.
    process_is_true tree input limits moves shares pause es t n s a constants marks i joins m (t.condition i) refl h
