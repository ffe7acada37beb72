use Rattle.std.proofs.Common.{◌≡◌, drop}
use Rattle.sp_verify_effects.specs.Sets.{meets}
use Rattle.sp_verify_effects.proofs.sets.meets.Given as goal

-- none of those so far is in the set
abbrev pub invariant-loop-x : goal.invariant-loop-x
invariant-loop-x l = meets l.set.keys (drop l.x-index l.xs) ≡ meets l.set.keys l.xs
