use Rattle.sp_verify_effects.proofs.FactEdges.{AreFirst}
use Rattle.sp_verify_effects.proofs.variables.own_of.Given as goal

-- those of the layouts so far are put
abbrev pub invariant-loop-j : goal.invariant-loop-j
invariant-loop-j l = AreFirst l.j l.layouts l.own.keys
