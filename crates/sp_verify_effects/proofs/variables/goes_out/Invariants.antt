use Rattle.std.proofs.Common.{◌≡◌, drop}
use Rattle.sp_verify_effects.specs.Variables.{goes_out}
use Rattle.sp_verify_effects.proofs.variables.goes_out.Given as goal

-- none of those so far is
abbrev pub invariant-loop-x : goal.invariant-loop-x
invariant-loop-x l = goes_out l.own.keys l.entry l.from (drop l.x-index l.xs) ≡ goes_out l.own.keys l.entry l.from l.xs
