use Rattle.sp_verify_shapes.specs.Starts.{AddsStarts, IsOfLayouts}
use Rattle.sp_verify_shapes.proofs.begin.begin_blocks.Given as goal

-- those of the layouts so far are added
abbrev pub invariant-loop-l : goal.invariant-loop-l
invariant-loop-l l = AddsStarts l.code (IsOfLayouts l.code l.l-index) l.fn.arrivals l.arrivals
