use Rattle.std.proofs.Common.{◌≡◌, ℕ, ◌<◌, false}
use Rattle.sp_verify_shapes.specs.Lengths.{is_longer, received_at}
use Rattle.sp_verify_shapes.proofs.messages.first_lacking.Given as goal

-- those so far have room
abbrev pub invariant-loop-p : goal.invariant-loop-p
invariant-loop-p l = (k : ℕ) → k < l.p → is_longer l.lengths (received_at l.code l.shapes k) ≡ false
