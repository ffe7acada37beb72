use Rattle.std.proofs.Common.{ℕ}
use Rattle.sp_code.specs.declared.code.Layout.{Layout}
use Rattle.sp_verify_effects.specs.AskedAreas.{AsksLayout}
use Rattle.sp_verify_effects.proofs.AreaQueries.{HoldsBefore}
use Rattle.sp_verify_effects.proofs.asked_areas.asks_layouts.Given as goal

-- those of the layouts so far are
abbrev pub invariant-loop-l : goal.invariant-loop-l
invariant-loop-l s = HoldsBefore (λ (j : ℕ) (l : Layout). AsksLayout s.asked l) s.layouts s.l-index
