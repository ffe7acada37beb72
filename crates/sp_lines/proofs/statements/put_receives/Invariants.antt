use Rattle.std.proofs.Common.{◌+◌, map, drop}
use Rattle.sp_tree.specs.CheckedOf.{receives, expression_of, variable_of}
use Rattle.sp_lines.specs.Marks.{all_marks}
use Rattle.sp_base.specs.Adds.{Covers}
use Rattle.sp_lines.proofs.statements.put_receives.Given as goal

abbrev pub invariant-loop-v : goal.invariant-loop-v
invariant-loop-v l =
    Covers l.fn.out l.out (all_marks l.kinds (receives (l.number + l.v-index) l.at (expression_of l.channel)
    (map variable_of (drop l.v-index l.variables))))
    (all_marks l.kinds (receives l.number l.at (expression_of l.channel) (map variable_of l.variables)))
