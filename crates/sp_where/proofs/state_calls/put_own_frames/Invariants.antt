use Rattle.std.proofs.Common.{◌≤◌, length}
use Rattle.sp_code.specs.Memory.{last_frames}
use Rattle.sp_base.specs.Adds.{Covers}
use Rattle.sp_where.specs.KnownOf.{known_of}
use Rattle.sp_where.specs.StateCalls.{frames_text}
use Rattle.sp_where.proofs.state_calls.put_own_frames.Given as goal

-- what was put, and the frames from the next one on
abbrev pub invariant-loop-count : goal.invariant-loop-count
invariant-loop-count l = record {
  within : l.count ≤ length l.frames;
  frames : Covers l.fn.out l.out
      (frames_text (known_of l.known) l.process l.store l.returns (last_frames l.count l.frames))
      (frames_text (known_of l.known) l.process l.store l.fn.returns l.frames);
}

abbrev pub decreases-loop-count : goal.decreases-loop-count
decreases-loop-count l = l.count
