use Rattle.std.proofs.Common.{◌≡◌}
use Rattle.sp_lines.specs.JumpTargets.{landing, landing_within}
use Rattle.sp_lines.proofs.jumps.landing.Given as goal

abbrev pub invariant-loop-left : goal.invariant-loop-left
invariant-loop-left l = landing_within l.left l.code.instrs l.at ≡ landing l.code.instrs l.fn.at

abbrev pub decreases-loop-left : goal.decreases-loop-left
decreases-loop-left l = l.left
