use Rattle.sp_verify_effects.specs.Effects.{AreRows}
use Rattle.sp_verify_effects.proofs.effects.rows_of.Given as goal

-- the facts so far are written
abbrev pub invariant-loop-i : goal.invariant-loop-i
invariant-loop-i l = AreRows l.facts l.i l.count l.rows
