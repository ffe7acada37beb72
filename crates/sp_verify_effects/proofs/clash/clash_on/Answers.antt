use Rattle.std.proofs.lemmas.Option.{none-some}
use Rattle.sp_verify_effects.proofs.clash.clash_on.Goals as goal

pub returns-in-None : goal.returns-in-None
returns-in-None c = λ p e. absurd (none-some p e)

pub clash_at-requires-clause-done : goal.clash_at-requires-clause-done
clash_at-requires-clause-done c = c.in-Ok.ensures c.in-Some.fact c.in-Some.is
