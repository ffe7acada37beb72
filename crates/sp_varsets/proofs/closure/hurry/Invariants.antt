use Rattle.sp_varsets.specs.Paths.{ExtendsByPaths}
use Rattle.sp_varsets.proofs.closure.hurry.Given as goal

abbrev pub invariant-steps : goal.invariant-steps
invariant-steps l = ExtendsByPaths l.calls l.hidden l.fn.rows l.rows
