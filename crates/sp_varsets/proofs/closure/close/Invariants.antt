use Rattle.sp_varsets.specs.Paths.{ExtendsByPaths}
use Rattle.sp_varsets.proofs.Paths.{gaps, span}
use Rattle.sp_varsets.proofs.closure.close.Given as goal

abbrev pub invariant-sweeps : goal.invariant-sweeps
invariant-sweeps l = ExtendsByPaths l.calls l.hidden l.fn.rows l.rows

abbrev pub decreases-sweeps : goal.decreases-sweeps
decreases-sweeps l = gaps l.rows (span l.fn.rows)
