use Rattle.std.proofs.Common.{length}
use Rattle.sp_codefile.specs.CodeText.{formal_text}
use Rattle.sp_codefile.specs.CodeText.{FormalFits}
use Rattle.sp_codefile.proofs.LeftLaws.{LeavesRest}
use Rattle.sp_codefile.proofs.line_reader.formals.Given as goal

abbrev pub invariant-loop-rest : goal.invariant-loop-rest
invariant-loop-rest l = LeavesRest formal_text FormalFits l.text l.formals l.rest

abbrev pub decreases-loop-rest : goal.decreases-loop-rest
decreases-loop-rest l = length l.rest
