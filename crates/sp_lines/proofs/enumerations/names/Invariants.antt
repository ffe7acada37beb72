use Rattle.std.proofs.Common.{◌≡◌, ◌++◌, drop}
use Rattle.sp_lines.specs.Constants.{names}
use Rattle.sp_lines.proofs.enumerations.names.Given as goal

abbrev pub invariant-loop-x : goal.invariant-loop-x
invariant-loop-x l = l.out ++ names (drop l.x-index l.xs) ≡ names l.xs
