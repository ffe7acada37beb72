use Rattle.promise_rows.proofs.WitnessRows.{contends, never_contends}
use Rattle.promise_rows.proofs.races.races_contend.Goals as goal

pub returns-clause-race : goal.returns-clause-race
returns-clause-race c = λ x input out notes text r w channel i k o held e done v. contends o text held r e done w
    channel i k v

pub returns-clause-ordered : goal.returns-clause-ordered
returns-clause-ordered c = λ x input out notes text r o held e done v. never_contends o text held r e done v
