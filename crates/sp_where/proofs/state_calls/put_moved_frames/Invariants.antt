use Rattle.std.proofs.Common.{◌≤◌, length}
use Rattle.sp_code.specs.Memory.{last_frames}
use Rattle.sp_base.specs.Adds.{Covers}
use Rattle.sp_where.specs.KnownOf.{known_of}
use Rattle.sp_where.specs.StateCalls.{moved_frames}
use Rattle.sp_where.proofs.state_calls.put_moved_frames.Given as goal

-- what was put, and the frames from the next one on
abbrev pub invariant-loop-count : goal.invariant-loop-count
invariant-loop-count l = record {
  within : l.count ≤ length l.frames;
  frames : Covers l.fn.out l.out
      (moved_frames (known_of l.known) l.store l.left (last_frames l.count l.frames))
      (moved_frames (known_of l.known) l.store l.fn.moved (last_frames l.fn.count l.frames));
}

abbrev pub decreases-loop-count : goal.decreases-loop-count
decreases-loop-count l = l.count
