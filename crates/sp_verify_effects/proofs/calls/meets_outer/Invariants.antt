use Rattle.std.proofs.Common.{◌≡◌, drop}
use Rattle.sp_verify_effects.specs.Calls.{meets_outer}
use Rattle.sp_verify_effects.proofs.calls.meets_outer.Given as goal

-- none of those so far is
abbrev pub invariant-loop-x : goal.invariant-loop-x
invariant-loop-x l = meets_outer l.effects l.entry
    (drop l.x-index l.xs) ≡ meets_outer l.effects l.entry l.xs
