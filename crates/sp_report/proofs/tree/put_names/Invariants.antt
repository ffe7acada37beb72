use Rattle.std.proofs.Common.{drop}
use Rattle.std.specs.List.{flat_map}
use Rattle.sp_report.specs.Tree.{tree_line}
use Rattle.sp_base.specs.Adds.{Covers}
use Rattle.sp_report.proofs.tree.put_names.Given as goal

-- what was put, and the lines of the names that are left
abbrev pub invariant-loop-name : goal.invariant-loop-name
invariant-loop-name l = Covers l.initial.out l.out (flat_map tree_line (drop l.name-index l.names))
    (flat_map tree_line l.names)
