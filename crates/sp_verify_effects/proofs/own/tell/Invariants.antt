use Rattle.std.proofs.Common.{take}
use Rattle.sp_verify_effects.specs.Own.{IsOf, IsEffectAmong, TellsAsked}
use Rattle.sp_verify_effects.proofs.own.tell.Given as goal

-- what is asked about the variables so far is told
abbrev pub invariant-loop-i : goal.invariant-loop-i
invariant-loop-i l = TellsAsked l.asked l.fn.facts l.facts (IsOf l.area (IsEffectAmong l.stores (take l.i l.variables)))
