use Rattle.std.proofs.Common.{◌≤◌, ◌-◌}
use Rattle.sp_varsets.specs.Paths.{Visited}
use Rattle.sp_varsets.proofs.closure.visit.Given as goal

abbrev pub invariant-called : goal.invariant-called
invariant-called l = (l.from ≤ 4294967296) × Visited l.fn.rows l.rows l.b l.calls l.hidden l.from l.changed

abbrev pub decreases-called : goal.decreases-called
decreases-called l = 4294967296 - l.from
