use Rattle.std.proofs.Common.{subst}
use Rattle.std.proofs.lemmas.Option.{none-some}
use Rattle.sp_verify_rules.specs.Verdict.{BreaksV6}
use Rattle.sp_verify_areas.specs.LeastPlaces.{IsLeast}
use Rattle.sp_verify_effects.proofs.breach.first_found.Goals as goal

pub returns-in-None : goal.returns-in-None
returns-in-None c = λ p e. absurd (none-some p e)

pub returns : goal.returns
returns c = λ p e. subst (IsLeast (BreaksV6 c.args.g.now.code.now)) e c.in-Ok-first_to.ensures
