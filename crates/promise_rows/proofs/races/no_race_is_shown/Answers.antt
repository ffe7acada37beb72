use Rattle.promise_rows.proofs.WitnessRows.{no_race_is_shown}
use Rattle.promise_rows.proofs.races.no_race_is_shown.Goals as goal

pub returns : goal.returns
returns c = λ x input out notes r o e v n. no_race_is_shown o r e v n
