use Rattle.std.proofs.Common.{◌≡◌, drop}
use Rattle.sp_code.specs.System.{place_of}
use Rattle.sp_machine.proofs.children.place_of.Given as goal

abbrev pub invariant-loop-other : goal.invariant-loop-other
invariant-loop-other l = place_of l.variable l.first l.variables
    ≡ place_of l.variable l.place (drop l.other-index l.variables)
