use Rattle.std.proofs.Common.{◌≤◌, length}
use Rattle.sp_verify_shapes.specs.Asks.{CoversAll}
use Rattle.sp_verify_shapes.proofs.asks.covers_all.Given as goal

-- it covers those behind
abbrev pub invariant-formals : goal.invariant-formals
invariant-formals l = (l.k ≤ length l.formals) × CoversAll l.most l.formals l.k l.to

abbrev pub decreases-formals : goal.decreases-formals
decreases-formals l = l.k
