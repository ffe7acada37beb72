use Rattle.sp_verify_rules.specs.Verdict.{BreaksV6}
use Rattle.sp_verify_effects.proofs.breach.least_breach.Given as goal

-- what was found is a breach
abbrev pub invariant-loop-round : goal.invariant-loop-round
invariant-loop-round l = BreaksV6 l.g.code.now l.halving.first
