use Rattle.std.proofs.Common.{ℕ, ◌<◌}
use Rattle.sp_verify_rules.specs.Rules.{BreaksV9}
use Rattle.sp_verify_areas.proofs.rounds.first_broken.Given as goal

-- none so far
abbrev pub invariant-loop-p : goal.invariant-loop-p
invariant-loop-p l = (k : ℕ) → k < l.p → BreaksV9 l.code k → ⊥
