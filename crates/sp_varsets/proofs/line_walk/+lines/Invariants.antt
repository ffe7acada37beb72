use Rattle.std.proofs.Common.{map, drop}
use Rattle.sp_tree.specs.CheckedOf.{statements, statement_of, arms, arm_of}
use Rattle.sp_varsets.specs.LineForks.{statements_lines, arms_lines}
use Rattle.sp_base.specs.Adds.{Covers}
use Rattle.sp_varsets.proofs.line_walk.+lines.Given as goal

abbrev pub invariant-statements_lines-loop-s : goal.invariant-statements_lines-loop-s
invariant-statements_lines-loop-s l =
    Covers l.fn.lines l.lines (statements_lines (statements (map statement_of (drop l.s-index l.ss))))
    (statements_lines (statements (map statement_of l.ss)))

abbrev pub invariant-arms_lines-loop-arm : goal.invariant-arms_lines-loop-arm
invariant-arms_lines-loop-arm l =
    Covers l.fn.lines l.lines (arms_lines (arms (map arm_of (drop l.arm-index l.choices))))
    (arms_lines (arms (map arm_of l.choices)))
