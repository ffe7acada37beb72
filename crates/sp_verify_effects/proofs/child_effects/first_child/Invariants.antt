use Rattle.std.proofs.Common.{◌<◌, length}
use Rattle.sp_verify_areas.specs.LeastPlaces.{IsLeast, Upto}
use Rattle.sp_verify_effects.specs.Befores.{IsBefore}
use Rattle.sp_verify_effects.specs.ChildEffects.{ChildFails}
use Rattle.sp_verify_effects.proofs.child_effects.first_child.Given as goal

-- of the children so far; what they are handed is noted where one more follows
abbrev pub invariant-loop-k : goal.invariant-loop-k
invariant-loop-k l = IsLeast (Upto (ChildFails l.effects l.children) l.k) l.first
    × (l.k < length l.children → IsBefore l.children l.k l.before)
