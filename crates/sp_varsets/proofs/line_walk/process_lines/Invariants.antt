use Rattle.std.proofs.Common.{map, drop}
use Rattle.sp_tree.specs.CheckedOf.{statements, statement_of}
use Rattle.sp_varsets.specs.LineForks.{process_lines}
use Rattle.sp_base.specs.Adds.{Covers}
use Rattle.sp_varsets.proofs.line_walk.process_lines.Given as goal

abbrev pub invariant-loop-k : goal.invariant-loop-k
invariant-loop-k l =
    Covers l.fn.lines l.lines (process_lines l.at l.k (statements (map statement_of (drop l.k l.ss))))
    (process_lines l.at 0 (statements (map statement_of l.ss)))
