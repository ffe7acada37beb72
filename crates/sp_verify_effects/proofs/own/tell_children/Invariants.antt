use Rattle.sp_verify_effects.specs.Own.{IsOf, OneIsHanded, TellsAsked}
use Rattle.sp_verify_effects.proofs.own.tell_children.Given as goal

-- what is asked about what the children so far are handed is told
abbrev pub invariant-loop-k : goal.invariant-loop-k
invariant-loop-k l = TellsAsked l.asked l.fn.facts l.facts (IsOf l.area (OneIsHanded l.children l.k))
