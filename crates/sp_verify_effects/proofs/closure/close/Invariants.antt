use Rattle.sp_verify_effects.specs.FactClosure.{ClosesTo}
use Rattle.sp_verify_effects.proofs.closure.close.Given as goal

-- the facts so far are followed
abbrev pub invariant-loop-i : goal.invariant-loop-i
invariant-loop-i l = ClosesTo l.asked l.rows l.own.keys l.fn.facts l.facts l.i
