use Rattle.std.proofs.Common.{drop}
use Rattle.sp_lines.specs.Marks.{own, test_marks}
use Rattle.sp_base.specs.Adds.{Covers}
use Rattle.sp_lines.proofs.statements.put_test.Given as goal

abbrev pub invariant-loop-constant : goal.invariant-loop-constant
invariant-loop-constant l =
    Covers l.fn.out l.out (test_marks (own l.s) (drop l.constant-index l.constants)) (test_marks (own l.s) l.constants)
