use Rattle.std.proofs.Common.{drop}
use Rattle.sp_code.specs.Listing.{numbered_texts, instr_line}
use Rattle.sp_base.specs.Adds.{Covers}
use Rattle.sp_code.proofs.lines.put_instrs.Given as goal

abbrev pub invariant-loop-number : goal.invariant-loop-number
invariant-loop-number l =
    Covers l.fn.out l.out (numbered_texts instr_line l.number (drop l.number l.instrs))
    (numbered_texts instr_line 0 l.instrs)
