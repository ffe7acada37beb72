use Rattle.sp_verify_areas.specs.Alone.{LayoutFails, layout_fails}
use Rattle.sp_verify_areas.specs.LeastPlaces.{IsLeast, Upto}
use Rattle.sp_verify_areas.proofs.layouts.first_layout.Given as goal

-- of the layouts so far
abbrev pub invariant-loop-l : goal.invariant-loop-l
invariant-loop-l l = IsLeast (Upto (LayoutFails (layout_fails l.count) l.layouts) l.l-index) l.first
