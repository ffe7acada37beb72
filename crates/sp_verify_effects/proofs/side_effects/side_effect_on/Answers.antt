use Rattle.std.proofs.lemmas.Option.{none-some}
use Rattle.sp_verify_effects.proofs.side_effects.side_effect_on.Goals as goal

pub returns-in-None : goal.returns-in-None
returns-in-None c = λ p e. absurd (none-some p e)

pub side_effect_of-requires-clause-done : goal.side_effect_of-requires-clause-done
side_effect_of-requires-clause-done c = c.in-Ok.ensures c.in-Some.fact c.in-Some.is
