use Rattle.std.proofs.Common.{◌≡◌, ◌++◌, drop}
use Rattle.sp_machine.specs.Frames.{frame_of}
use Rattle.sp_where.specs.StateCalls.{but_of}
use Rattle.sp_where.proofs.state_calls.but_of.Given as goal

-- those so far, and those of the rest
abbrev pub invariant-loop-spot : goal.invariant-loop-spot
invariant-loop-spot l = l.left ++ but_of (frame_of l.frame) (drop l.spot-index l.spots)
    ≡ but_of (frame_of l.frame) l.spots
