use Rattle.std.proofs.Common.{◌≡◌, length}
use Rattle.sp_verify_effects.specs.Acts.{AreActsOf}
use Rattle.sp_verify_effects.proofs.acts.acts_of.Given as goal

-- those of the instructions so far are set
abbrev pub invariant-loop-p : goal.invariant-loop-p
invariant-loop-p l = (length l.flags ≡ length l.g.code.now.instrs) × AreActsOf l.g.code.now l.p l.flags
