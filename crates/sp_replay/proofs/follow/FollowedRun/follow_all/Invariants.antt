use Rattle.std.proofs.Common.{◌≡◌, take}
use Rattle.sp_kernel.specs.Kernels.{code_run_of}
use Rattle.sp_replay.specs.FollowInvariant.{HoldsAllReady}
use Rattle.sp_replay.proofs.follow.FollowedRun.follow_all.Given as goal

abbrev pub invariant-loop-index : goal.invariant-loop-index
invariant-loop-index l = record {
  stands : HoldsAllReady l.self;
  code_run : code_run_of l.self.kernel ≡ code_run_of l.initial.self.kernel;
  entries : l.self.kernel.journal.entries ≡ take l.index l.entries;
}
