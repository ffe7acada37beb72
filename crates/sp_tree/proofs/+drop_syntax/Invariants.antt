use Rattle.std.proofs.Common.{◌≤◌}
use Rattle.sp_tree.specs.declared.syntax.SynExpr.{size-SynExpr}
use Rattle.sp_tree.proofs.+drop_syntax.Given as goal

abbrev pub invariant-syntax::SynExpr::drop-loop-a : goal.invariant-syntax::SynExpr::drop-loop-a
invariant-syntax::SynExpr::drop-loop-a l = size-SynExpr l.self ≤ size-SynExpr l.initial.self
