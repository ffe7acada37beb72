use Rattle.std.proofs.Common.{All, take}
use Rattle.std.specs.List.{flat_map}
use Rattle.sp_codefile.specs.CodeText.{formal_text}
use Rattle.sp_codefile.specs.CodeText.{FormalFits}
use Rattle.sp_base.specs.Adds.{Adds}
use Rattle.sp_codefile.proofs.line_writer.put_formals.Given as goal

abbrev pub invariant-loop-formal : goal.invariant-loop-formal
invariant-loop-formal l = record {
  text : Adds l.fn.out l.out (flat_map formal_text (take l.formal-index l.formals));
  fits : All FormalFits (take l.formal-index l.formals);
}
