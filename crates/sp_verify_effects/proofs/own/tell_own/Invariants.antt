use Rattle.sp_verify_effects.specs.Facts.{Tells}
use Rattle.sp_verify_effects.specs.Own.{OwnBefore}
use Rattle.sp_verify_effects.proofs.own.tell_own.Given as goal

-- what the instructions so far do is told
abbrev pub invariant-loop-p : goal.invariant-loop-p
invariant-loop-p l = Tells l.fn.facts l.facts (OwnBefore l.g.code.now l.asked l.p)
