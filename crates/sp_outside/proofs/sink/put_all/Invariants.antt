use Rattle.std.proofs.Common.{length, take, ◌-◌, ◌≤◌}
use Rattle.sp_outside.specs.Visible.{Grows}
use Rattle.sp_outside.proofs.sink.put_all.Given as goal

abbrev pub invariant-loop-done : goal.invariant-loop-done
invariant-loop-done g l =
    (l.done ≤ length l.bytes) × Grows (g.S.Sink.written l.fn.sink) (g.S.Sink.written l.sink) (take l.done l.bytes)
    × (g.S.Sink.faults l.fn.sink ≤ g.S.Sink.faults l.sink)

abbrev pub decreases-loop-done : goal.decreases-loop-done
decreases-loop-done g l = length l.bytes - l.done
