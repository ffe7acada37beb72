use Rattle.std.proofs.Common.{length}
use Rattle.sp_code.specs.Listing.{number_text}
use Rattle.sp_codefile.specs.CodeText.{IsNumber}
use Rattle.sp_codefile.proofs.LeftLaws.{LeavesRest}
use Rattle.sp_codefile.proofs.line_reader.numbers.Given as goal

abbrev pub invariant-loop-rest : goal.invariant-loop-rest
invariant-loop-rest l = LeavesRest number_text IsNumber l.text l.numbers l.rest

abbrev pub decreases-loop-rest : goal.decreases-loop-rest
decreases-loop-rest l = length l.rest
