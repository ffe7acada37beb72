use Rattle.std.proofs.Common.{◌≡◌, drop}
use Rattle.std.specs.List.{list_any}
use Rattle.sp_machine.specs.Frames.{frame_of}
use Rattle.sp_where.specs.StateCalls.{is_of}
use Rattle.sp_where.proofs.state_calls.has_moved.Given as goal

abbrev pub invariant-loop-spot : goal.invariant-loop-spot
invariant-loop-spot l = list_any (is_of (frame_of l.frame)) l.spots
    ≡ list_any (is_of (frame_of l.frame)) (drop l.spot-index l.spots)
