use Rattle.std.proofs.Common.{ℕ, ◌<◌}
use Rattle.sp_verify_rules.specs.Areas.{Area}
use Rattle.sp_verify_rules.specs.NameRules.{LiesIn}
use Rattle.sp_verify_areas.specs.Rounds.{FallsFrom}
use Rattle.sp_verify_areas.proofs.rounds.never_rise.Given as goal

-- from the instructions so far
abbrev pub invariant-loop-p : goal.invariant-loop-p
invariant-loop-p l = (k : ℕ) → k < l.p → (a : Area) → LiesIn l.code k a → FallsFrom l.code l.numbers 0 k
