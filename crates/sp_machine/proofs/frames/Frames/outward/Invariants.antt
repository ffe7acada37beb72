use Rattle.std.proofs.Common.{◌≡◌, ◌≤◌, ◌-◌, length}
use Rattle.sp_code.specs.Memory.{last_frames, frames_up}
use Rattle.sp_machine.proofs.frames.Frames.outward.Given as goal

abbrev pub invariant-loop : goal.invariant-loop
invariant-loop l = record {
  same : frames_up l.up l.self ≡ frames_up (l.up - l.counter) (last_frames l.count l.self);
  within : l.count ≤ length l.self;
}
