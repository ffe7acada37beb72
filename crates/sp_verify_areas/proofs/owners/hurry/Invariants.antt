use Rattle.sp_verify_areas.specs.Owners.{Propagates}
use Rattle.sp_verify_areas.proofs.owners.hurry.Given as goal

-- what was handed on is true
abbrev pub invariant-loop-step : goal.invariant-loop-step
invariant-loop-step l = Propagates l.code l.fn.owners l.owners (λ os. Unit {0}) l.changed
