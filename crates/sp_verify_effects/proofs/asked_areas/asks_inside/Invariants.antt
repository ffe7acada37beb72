use Rattle.std.proofs.Common.{ℕ, ◌<◌}
use Rattle.sp_verify_effects.specs.AskedAreas.{AsksInsideAt}
use Rattle.sp_verify_effects.proofs.asked_areas.asks_inside.Given as goal

-- those at the instructions so far are
abbrev pub invariant-loop-p : goal.invariant-loop-p
invariant-loop-p l = (q : ℕ) → q < l.p → AsksInsideAt l.g.code.now l.asked q
