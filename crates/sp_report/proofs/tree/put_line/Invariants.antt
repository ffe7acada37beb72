use Rattle.std.proofs.Common.{take}
use Rattle.sp_report.specs.Tree.{indent}
use Rattle.sp_base.specs.Adds.{Adds}
use Rattle.sp_report.proofs.tree.put_line.Given as goal

-- two spaces for each pair so far
abbrev pub invariant-loop-pair : goal.invariant-loop-pair
invariant-loop-pair l = Adds l.initial.out l.out (indent (take l._pair-index l.pairs))
