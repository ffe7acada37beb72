use Rattle.std.proofs.Common.{length}
use Rattle.sp_replay.specs.HeldProcesses.{held_at}
use Rattle.sp_replay.specs.FollowInvariant.{IsReplayKernel, SameRun}
use Rattle.sp_replay.proofs.follow.FollowedRun.take_ready.Given as goal

abbrev pub invariant-loop-proc : goal.invariant-loop-proc
invariant-loop-proc l = record {
  follows : IsReplayKernel l.self.kernel (held_at l.self.held);
  same : SameRun l.initial.self.kernel l.self.kernel;
}

abbrev pub decreases-loop-proc : goal.decreases-loop-proc
decreases-loop-proc l = length l.self.kernel.ready
