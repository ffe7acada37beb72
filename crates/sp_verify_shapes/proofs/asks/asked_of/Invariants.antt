use Rattle.std.proofs.Common.{◌≡◌, length}
use Rattle.sp_verify_shapes.proofs.Asking.{FirstAsked}
use Rattle.sp_verify_shapes.proofs.asks.asked_of.Given as goal

-- those of the layouts so far
abbrev pub invariant-loop-l : goal.invariant-loop-l
invariant-loop-l l = (length l.asked ≡ l.l-index) × FirstAsked l.layouts l.asked
