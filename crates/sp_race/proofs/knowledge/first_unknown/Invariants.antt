use Rattle.std.proofs.Common.{ℕ, ◌-◌, ◌<◌, ◌≤◌, take}
use Rattle.sp_journal.specs.Births.{births}
use Rattle.sp_race.specs.JudgeTables.{entries_by_names, IsUnknown}
use Rattle.sp_race.proofs.knowledge.first_unknown.Given as goal

abbrev pub invariant-loop-known : goal.invariant-loop-known
invariant-loop-known l =
    (l.first ≤ l.at) × ((k : ℕ) → k < l.known
    → IsUnknown (births l.entries) (entries_by_names (births l.entries)
    (take l.at l.entries)) l.entries l.racing_offer.process
    l.racing_offer.way l.racing_offer.channel k → ⊥)
    × (l.first < l.at → IsUnknown (births l.entries) (entries_by_names (births l.entries) (take l.at l.entries))
    l.entries
    l.racing_offer.process l.racing_offer.way l.racing_offer.channel l.first)

abbrev pub decreases-loop-known : goal.decreases-loop-known
decreases-loop-known l = l.first - l.known
