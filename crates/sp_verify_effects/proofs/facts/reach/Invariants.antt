use Rattle.std.proofs.Common.{◌≡◌, ℕ, length}
use Rattle.sp_verify_effects.specs.declared.facts.Effect.{Effect}
use Rattle.sp_verify_effects.specs.Facts.{sets_have}
use Rattle.sp_verify_effects.proofs.facts.reach.Given as goal

-- so many areas have places, and nothing is noted that was not
abbrev pub invariant-loop-place : goal.invariant-loop-place
invariant-loop-place l = (length l.areas ≡ l._place)
    × ((p : ℕ) (d : Effect) → sets_have l.areas p d ≡ sets_have l.fn.areas p d)
