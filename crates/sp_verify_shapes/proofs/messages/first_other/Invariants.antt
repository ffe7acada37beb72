use Rattle.std.proofs.Common.{◌≡◌}
use Rattle.sp_verify_shapes.specs.Lengths.{AreLengths}
use Rattle.sp_verify_shapes.proofs.messages.first_other.Given as goal

-- those so far have one length a type
abbrev pub invariant-loop-p : goal.invariant-loop-p
invariant-loop-p l = AreLengths (λ m n. m ≡ n) l.code l.shapes l.p l.lengths
