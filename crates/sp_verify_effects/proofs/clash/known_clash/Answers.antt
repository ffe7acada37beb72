use Rattle.std.proofs.lemmas.Option.{none-some}
use Rattle.sp_verify_effects.proofs.clash.known_clash.Goals as goal

pub returns-in-None : goal.returns-in-None
returns-in-None c = λ p e. absurd (none-some p e)
