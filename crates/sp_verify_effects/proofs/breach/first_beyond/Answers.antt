use Rattle.std.proofs.lemmas.Option.{none-some}
use Rattle.sp_verify_effects.proofs.breach.first_beyond.Goals as goal

pub returns-then-len-eq0 : goal.returns-then-len-eq0
returns-then-len-eq0 c = λ p e. absurd (none-some p e)
