use Rattle.sp_meaning.specs.Runs.{system_of, start}
use Rattle.sp_meaning.proofs.Schedules.{front_lawful}
use Rattle.sp_meaning.proofs.laws.fronts_are_lawful.Goals as goal

pub returns : goal.returns
returns c = λ g ps qs t l. front_lawful (system_of g) ps qs (start g) t l
