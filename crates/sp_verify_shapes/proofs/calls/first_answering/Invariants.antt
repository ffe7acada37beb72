use Rattle.sp_verify_areas.specs.Alone.{LayoutFails}
use Rattle.sp_verify_areas.specs.LeastPlaces.{IsLeast, Upto}
use Rattle.sp_verify_shapes.specs.ReachRules.{answers_by_reference}
use Rattle.sp_verify_shapes.proofs.calls.first_answering.Given as goal

-- of the layouts so far
abbrev pub invariant-loop-l : goal.invariant-loop-l
invariant-loop-l l = IsLeast (Upto (LayoutFails answers_by_reference l.layouts) l.l-index) l.first
