use Rattle.sp_verify_effects.specs.FactClosure.{IsDone}
use Rattle.sp_verify_effects.proofs.breach.walk.Given as goal

-- what the fact became so far, an area does
abbrev pub invariant-loop-number : goal.invariant-loop-number
invariant-loop-number l = IsDone l.g.code.now l.fact
