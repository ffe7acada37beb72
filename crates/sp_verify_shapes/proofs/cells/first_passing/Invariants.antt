use Rattle.std.proofs.Common.{◌≡◌, ℕ, ◌<◌, false}
use Rattle.sp_verify_rules.specs.Shapes.{stays_within}
use Rattle.sp_verify_shapes.specs.ReachRules.{fails_at}
use Rattle.sp_verify_shapes.proofs.cells.first_passing.Given as goal

-- those so far pass none
abbrev pub invariant-loop-p : goal.invariant-loop-p
invariant-loop-p l = (k : ℕ) → k < l.p → fails_at stays_within l.code l.shapes k ≡ false
