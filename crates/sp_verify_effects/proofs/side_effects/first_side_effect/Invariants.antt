use Rattle.sp_verify_areas.specs.LeastPlaces.{IsLeast, Upto}
use Rattle.sp_verify_effects.specs.SideEffects.{LayoutHasSideEffects}
use Rattle.sp_verify_effects.proofs.side_effects.first_side_effect.Given as goal

-- of the layouts so far
abbrev pub invariant-loop-l : goal.invariant-loop-l
invariant-loop-l l = IsLeast (Upto (LayoutHasSideEffects l.effects l.g.code.now.layouts) l.l-index) l.first
