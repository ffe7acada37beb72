use Rattle.std.proofs.Common.{◌≡◌, ◌<◌, ℕ, false}
use Rattle.sp_verify_effects.specs.AskedCalls.{lacks_actual, lacks_at}
use Rattle.sp_verify_effects.specs.Walks.{AreWalks}
use Rattle.sp_verify_effects.proofs.asked_calls.asks_calls.Given as goal

-- nothing is missing at those so far, nor among what was gone over
abbrev pub invariant-loop-p : goal.invariant-loop-p
invariant-loop-p l = AreWalks l.g.shapes.now.stacks l.walks (lacks_actual l.asked l.own.keys)
    × ((q : ℕ) → q < l.p → lacks_at l.g.code.now l.asked l.own.keys l.g.shapes.now q ≡ false)
