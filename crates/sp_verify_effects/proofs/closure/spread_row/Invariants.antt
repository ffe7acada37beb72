use Rattle.sp_verify_effects.specs.Facts.{Tells}
use Rattle.sp_verify_effects.specs.FactClosure.{AlongOne}
use Rattle.sp_verify_effects.proofs.closure.spread_row.Given as goal

-- what goes along the edges so far is told
abbrev pub invariant-loop-k : goal.invariant-loop-k
invariant-loop-k l = Tells l.fn.facts l.facts (AlongOne l.asked l.row l.own l.effect l.k)
