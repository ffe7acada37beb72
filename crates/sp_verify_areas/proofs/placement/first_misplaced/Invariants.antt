use Rattle.std.proofs.Common.{◌<◌, ℕ}
use Rattle.sp_verify_areas.specs.Placement.{IsMisplaced}
use Rattle.sp_verify_areas.proofs.placement.first_misplaced.Given as goal

-- none so far
abbrev pub invariant-loop-p : goal.invariant-loop-p
invariant-loop-p l = (k : ℕ) → k < l.p → IsMisplaced l.code k → ⊥
