use Rattle.std.proofs.Common.{drop}
use Rattle.sp_code.specs.Listing.{numbered_texts, table_lines}
use Rattle.sp_base.specs.Adds.{Covers}
use Rattle.sp_code.proofs.lines.put_tables.Given as goal

abbrev pub invariant-loop-number : goal.invariant-loop-number
invariant-loop-number l =
    Covers l.fn.out l.out (numbered_texts table_lines l.number (drop l.number l.forks))
    (numbered_texts table_lines 0 l.forks)
