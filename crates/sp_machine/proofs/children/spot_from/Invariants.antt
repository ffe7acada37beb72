use Rattle.std.proofs.Common.{◌≡◌, ◌≤◌, length}
use Rattle.sp_code.specs.Memory.{last_frames}
use Rattle.sp_code.specs.System.{spot_from}
use Rattle.sp_machine.proofs.children.spot_from.Given as goal

abbrev pub invariant-loop-count : goal.invariant-loop-count
invariant-loop-count l = record {
  within : l.count ≤ length l.frames;
  same : spot_from l.code.layouts (length l.frames) l.frames l.variable
      ≡ spot_from l.code.layouts l.count (last_frames l.count l.frames) l.variable;
}

abbrev pub decreases-loop-count : goal.decreases-loop-count
decreases-loop-count l = l.count
