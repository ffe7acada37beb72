use Rattle.std.proofs.Common.{◌≡◌, ◌++◌, take}
use Rattle.sp_machine.proofs.frames.copy_frames.Given as goal

abbrev pub invariant-loop-frame : goal.invariant-loop-frame
invariant-loop-frame l = l.to ≡ l.fn.to ++ take l.frame-index l.frames
