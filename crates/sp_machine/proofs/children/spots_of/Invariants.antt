use Rattle.std.proofs.Common.{◌≡◌, ◌++◌, drop}
use Rattle.sp_code.specs.System.{spots_of}
use Rattle.sp_machine.proofs.children.spots_of.Given as goal

abbrev pub invariant-loop-variable : goal.invariant-loop-variable
invariant-loop-variable l = spots_of l.code.layouts l.frames l.variables ≡ l.spots
    ++ spots_of l.code.layouts l.frames (drop l.variable-index l.variables)
