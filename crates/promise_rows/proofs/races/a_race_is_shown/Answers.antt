use Rattle.promise_rows.proofs.WitnessRows.{a_race_is_shown}
use Rattle.promise_rows.proofs.races.a_race_is_shown.Goals as goal

pub returns : goal.returns
returns c = λ x input out notes text r w channel i k o held e v n. a_race_is_shown o text held r w channel i k e v n
