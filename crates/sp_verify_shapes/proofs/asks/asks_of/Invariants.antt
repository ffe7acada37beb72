use Rattle.std.proofs.Common.{◌≡◌, length}
use Rattle.sp_verify_shapes.specs.Asks.{AreAsks}
use Rattle.sp_verify_shapes.proofs.asks.asks_of.Given as goal

-- those of the formals so far
abbrev pub invariant-loop-k : goal.invariant-loop-k
invariant-loop-k l = (length l.asks ≡ l.k) × AreAsks l.formals l.asks
