use Rattle.std.proofs.Common.{◌≤◌}
use Rattle.sp_tree.specs.declared.checked.Expr.{size-Expr}
use Rattle.sp_tree.proofs.+drop_checked.Given as goal

-- what is left to drop is never larger
abbrev pub invariant-checked::Expr::drop-loop-a : goal.invariant-checked::Expr::drop-loop-a
invariant-checked::Expr::drop-loop-a l = size-Expr l.self ≤ size-Expr l.initial.self
