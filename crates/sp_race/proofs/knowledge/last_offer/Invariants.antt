use Rattle.std.proofs.Common.{ℕ, ◌<◌, ◌≤◌}
use Rattle.sp_race.specs.JudgeTables.{IsOfferAt}
use Rattle.sp_race.proofs.knowledge.last_offer.Given as goal

abbrev pub invariant-loop-i : goal.invariant-loop-i
invariant-loop-i l = (l.i ≤ l.before) × ((k : ℕ) → l.i ≤ k → k < l.before → IsOfferAt l.entries l.way l.channel k → ⊥)

abbrev pub decreases-loop-i : goal.decreases-loop-i
decreases-loop-i l = l.i
