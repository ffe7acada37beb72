use Rattle.std.proofs.Common.{◌≡◌, drop}
use Rattle.sp_code.specs.Memory.{reference_target}
use Rattle.sp_machine.proofs.frames.referred.Given as goal

abbrev pub invariant-loop-r : goal.invariant-loop-r
invariant-loop-r l = reference_target l.variable l.references ≡ reference_target l.variable
    (drop l.r-index l.references)
