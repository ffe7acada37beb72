use Rattle.std.proofs.Common.{◌≡◌, ℕ, ◌<◌, Some, true}
use Rattle.std.specs.Prelude.{slice_get}
use Rattle.sp_verify_shapes.proofs.shapes.first_marked.Given as goal

-- none so far
abbrev pub invariant-loop-p : goal.invariant-loop-p
invariant-loop-p l = (k : ℕ) → k < l.p → slice_get l.broken k ≡ Some true → ⊥
