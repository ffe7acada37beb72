use Rattle.std.proofs.Common.{◌≤◌}
use Rattle.sp_tree.specs.declared.named.NamedExpr.{size-NamedExpr}
use Rattle.sp_tree.proofs.+drop_named.Given as goal

-- what is left to drop is never larger
abbrev pub invariant-named::NamedExpr::drop-loop-a : goal.invariant-named::NamedExpr::drop-loop-a
invariant-named::NamedExpr::drop-loop-a l = size-NamedExpr l.self ≤ size-NamedExpr l.initial.self
