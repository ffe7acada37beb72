use Rattle.sp_report.specs.Tree.{tree_lines}
use Rattle.sp_base.specs.Adds.{Covers}
use Rattle.sp_report.proofs.tree.put_lines.Given as goal

-- what was put, and the lines of the names that are left
abbrev pub invariant-loop-name : goal.invariant-loop-name
invariant-loop-name l = Covers l.initial.out l.out (tree_lines l.name-iterator) (tree_lines l.names.entries)
