use Rattle.std.proofs.Common.{◌≤◌}
use Rattle.sp_verify_shapes.specs.Lengths.{AreLengths}
use Rattle.sp_verify_shapes.proofs.messages.greatest.Given as goal

-- of those so far
abbrev pub invariant-loop-p : goal.invariant-loop-p
invariant-loop-p l = AreLengths (λ m n. m ≤ n) l.code l.shapes l.p l.lengths
