use Rattle.sp_verify_effects.specs.Windows.{AreFirstWindows}
use Rattle.sp_verify_effects.proofs.windows.windows_of.Given as goal

-- the windows so far are right
abbrev pub invariant-loop-n : goal.invariant-loop-n
invariant-loop-n l = AreFirstWindows l.g.shapes.now.stacks l.n l.windows l.last
