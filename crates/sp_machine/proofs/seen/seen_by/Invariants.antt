use Rattle.std.proofs.Common.{◌≡◌, ◌≤◌, ℕ, length}
use Rattle.std.specs.Option.{option_or}
use Rattle.sp_code.specs.Memory.{last_frames}
use Rattle.sp_code.specs.System.{spot_from}
use Rattle.sp_machine.specs.Seen.{under}
use Rattle.sp_machine.proofs.seen.seen_by.Given as goal

-- a variable that is not in the table is looked for in the frames that are left
abbrev pub invariant-loop-left : goal.invariant-loop-left
invariant-loop-left l = record {
  within : l.left ≤ length l.frames;
  same : (x : ℕ) → option_or (under l.seen x) (spot_from l.code.layouts l.left (last_frames l.left l.frames) x)
      ≡ spot_from l.code.layouts (length l.frames) l.frames x;
}

abbrev pub decreases-loop-left : goal.decreases-loop-left
decreases-loop-left l = l.left
