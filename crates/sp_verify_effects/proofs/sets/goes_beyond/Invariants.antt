use Rattle.std.proofs.Common.{◌≡◌, drop}
use Rattle.sp_verify_effects.specs.Sets.{goes_beyond}
use Rattle.sp_verify_effects.proofs.sets.goes_beyond.Given as goal

-- those so far are known
abbrev pub invariant-loop-x : goal.invariant-loop-x
invariant-loop-x l = goes_beyond l.set.keys (drop l.x-index l.xs) ≡ goes_beyond l.set.keys l.xs
