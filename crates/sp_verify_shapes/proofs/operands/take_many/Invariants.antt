use Rattle.sp_verify_shapes.proofs.Takings.{AreGone}
use Rattle.sp_verify_shapes.proofs.operands.take_many.Given as goal

-- so many are left to be taken
abbrev pub invariant-shapes : goal.invariant-shapes
invariant-shapes l = AreGone l.stacks l.s l.count l.left l.rest

abbrev pub decreases-shapes : goal.decreases-shapes
decreases-shapes l = l.left
