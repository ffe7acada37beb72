use Rattle.std.proofs.Common.{◌≡◌, ◌<◌, ℕ, false}
use Rattle.sp_verify_effects.specs.Calls.{fails_at, is_outer}
use Rattle.sp_verify_effects.specs.Walks.{AreWalks}
use Rattle.sp_verify_effects.proofs.calls.first_call.Given as goal

-- none of those so far fails, and blocks do nothing outside themselves to what was gone over
abbrev pub invariant-loop-p : goal.invariant-loop-p
invariant-loop-p l = AreWalks l.g.shapes.now.stacks l.walks (is_outer l.effects)
    × ((q : ℕ) → q < l.p → fails_at l.g.code.now l.effects l.g.shapes.now q ≡ false)
