use Rattle.std.proofs.Common.{drop}
use Rattle.sp_code.specs.Listing.{numbered_texts, child_line}
use Rattle.sp_base.specs.Adds.{Covers}
use Rattle.sp_code.proofs.lines.put_children.Given as goal

abbrev pub invariant-loop-number : goal.invariant-loop-number
invariant-loop-number l =
    Covers l.fn.out l.out (numbered_texts (child_line l.table) l.number (drop l.number l.children))
    (numbered_texts (child_line l.table) 0 l.children)
