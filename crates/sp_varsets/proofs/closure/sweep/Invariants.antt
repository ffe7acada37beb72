use Rattle.sp_varsets.specs.Paths.{PassUpTo}
use Rattle.sp_varsets.proofs.closure.sweep.Given as goal

abbrev pub invariant-rows : goal.invariant-rows
invariant-rows l = PassUpTo l.calls l.hidden l.fn.rows l.rows l.b l.changed
