use Rattle.std.proofs.Common.{All, take}
use Rattle.sp_code.specs.Listing.{numbered_texts}
use Rattle.sp_codefile.specs.CodeText.{table_text, TableFits}
use Rattle.sp_base.specs.Adds.{Adds}
use Rattle.sp_codefile.proofs.line_writer.put_tables.Given as goal

abbrev pub invariant-loop-number : goal.invariant-loop-number
invariant-loop-number l = record {
  text : Adds l.fn.out l.out (numbered_texts table_text 0 (take l.number l.forks));
  fits : All TableFits (take l.number l.forks);
}
