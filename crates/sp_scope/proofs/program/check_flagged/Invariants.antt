use Rattle.std.proofs.Common.{◌≡◌, false, drop}
use Rattle.sp_scope.specs.Files.{files_flagged}
use Rattle.sp_scope.proofs.program.check_flagged.Given as goal

abbrev pub invariant-loop-x : goal.invariant-loop-x
invariant-loop-x l = files_flagged l.input l.output (drop l.x-index l.xs) l.first
    ≡ files_flagged false false l.xs l.fn.first
