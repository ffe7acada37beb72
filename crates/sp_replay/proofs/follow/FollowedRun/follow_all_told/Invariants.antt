use Rattle.std.proofs.Common.{◌≡◌, take}
use Rattle.sp_kernel.specs.Kernels.{code_run_of, system_of}
use Rattle.sp_replay.specs.FollowInvariant.{HoldsAllReady}
use Rattle.sp_lines.specs.EntryPlaces.{DescribesEntries}
use Rattle.sp_replay.proofs.follow.FollowedRun.follow_all_told.Given as goal

abbrev pub invariant-loop-index : goal.invariant-loop-index
invariant-loop-index l = record {
  stands : HoldsAllReady l.self;
  code_run : code_run_of l.self.kernel ≡ code_run_of l.initial.self.kernel;
  entries : l.self.kernel.journal.entries ≡ take l.index l.entries;
  told : DescribesEntries (code_run_of l.initial.self.kernel) l.self.kernel.journal.entries l.out
      (system_of l.self.kernel);
}
