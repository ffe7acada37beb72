use Rattle.sp_link.proofs.Programs.{program_means, program_runs, program_safe}
use Rattle.sp_link.proofs.Soundness.{names_on}
use Rattle.sp_link.proofs.laws.code_runs_as_the_program_means.Goals as goal

pub returns-clause-means : goal.returns-clause-means
returns-clause-means k = λ g moves shares pause ready es t h. program_means g moves shares pause ready es
    (names_on g moves shares pause ready es t h) t h

pub returns-clause-runs : goal.returns-clause-runs
returns-clause-runs k = λ g moves shares pause ready es named n s h. program_runs g moves shares pause ready es named n
    s h

pub returns-clause-safe : goal.returns-clause-safe
returns-clause-safe k = λ g moves shares pause ready es t h i d at. program_safe g moves shares pause ready es
    (names_on g moves shares pause ready es t h) t h i d at
