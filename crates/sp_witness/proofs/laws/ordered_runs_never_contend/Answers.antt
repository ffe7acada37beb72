use Rattle.sp_witness.proofs.laws.ordered_runs_never_contend.Goals as goal
use Rattle.sp_witness.proofs.VerdictMeaning.{never_alike, ordered_where_never}

pub returns : goal.returns
returns c = λ g turn es n t e v free along ends sure h.
    let clean = c.runs_without_a_fault_are_clean.ensures g turn es n t e along ends sure in
    let real = c.races_are_real.ensures g turn es n t free along clean in (
      never_alike g turn es n t e sure clean real v
          (c.verdicts_hold_of_runs.ensures g turn es n t e v free along ends h),
      ordered_where_never g turn es n t e sure clean real v h,
    )
