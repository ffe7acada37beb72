use Rattle.sp_verify_shapes.specs.Starts.{AddsStarts, IsMade}
use Rattle.sp_verify_shapes.proofs.begin.begin_forks.Given as goal

-- those of the instructions so far are added
abbrev pub invariant-loop-p : goal.invariant-loop-p
invariant-loop-p l = AddsStarts l.code (IsMade l.code l.p) l.fn.arrivals l.arrivals
