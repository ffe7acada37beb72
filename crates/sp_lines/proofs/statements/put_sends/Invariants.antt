use Rattle.std.proofs.Common.{◌+◌, map, drop}
use Rattle.sp_tree.specs.CheckedOf.{sends, expression_of}
use Rattle.sp_lines.specs.Marks.{all_marks}
use Rattle.sp_base.specs.Adds.{Covers}
use Rattle.sp_lines.proofs.statements.put_sends.Given as goal

abbrev pub invariant-loop-e : goal.invariant-loop-e
invariant-loop-e l =
    Covers l.fn.out l.out (all_marks l.kinds (sends (l.number + l.e-index) l.at (expression_of l.channel)
    (map expression_of (drop l.e-index l.values))))
    (all_marks l.kinds (sends l.number l.at (expression_of l.channel) (map expression_of l.values)))
