use Rattle.std.proofs.Common.{All, take}
use Rattle.sp_code.specs.Listing.{numbered_texts, instr_line}
use Rattle.sp_codefile.specs.CodeText.{InstrFits}
use Rattle.sp_base.specs.Adds.{Adds}
use Rattle.sp_codefile.proofs.line_writer.put_instrs.Given as goal

abbrev pub invariant-loop-number : goal.invariant-loop-number
invariant-loop-number l = record {
  text : Adds l.fn.out l.out (numbered_texts instr_line 0 (take l.number l.instrs));
  fits : All InstrFits (take l.number l.instrs);
}
