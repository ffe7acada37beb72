use Rattle.std.proofs.Common.{◌<◌, ℕ}
use Rattle.sp_verify_areas.specs.WrongNames.{MisnamesOnly}
use Rattle.sp_verify_areas.proofs.ranges.first_out_of_range.Given as goal

-- none so far
abbrev pub invariant-loop-p : goal.invariant-loop-p
invariant-loop-p l = (k : ℕ) → k < l.p → MisnamesOnly l.code k → ⊥
