use Rattle.std.proofs.Common.{All, take}
use Rattle.sp_code.specs.Listing.{numbered_texts}
use Rattle.sp_codefile.specs.CodeText.{child_of, ChildFits}
use Rattle.sp_base.specs.Adds.{Adds}
use Rattle.sp_codefile.proofs.line_writer.put_table.Given as goal

abbrev pub invariant-loop-number : goal.invariant-loop-number
invariant-loop-number l = record {
  text : Adds l.fn.out l.out (numbered_texts (child_of l.table) 0 (take l.number l.children));
  fits : All ChildFits (take l.number l.children);
}
