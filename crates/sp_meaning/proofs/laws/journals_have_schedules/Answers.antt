use Rattle.std.proofs.Common.{refl}
use Rattle.sp_meaning.specs.Runs.{start}
use Rattle.sp_meaning.specs.Along.{before_entries}
use Rattle.sp_meaning.proofs.JournalSchedules.{along_goes}
use Rattle.sp_meaning.proofs.laws.journals_have_schedules.Goals as goal

pub returns : goal.returns
returns c = λ g turn es n t a clean. let x = along_goes g turn es before_entries (start g) n t a clean refl in
    (x.names, x.size, x.leads)
