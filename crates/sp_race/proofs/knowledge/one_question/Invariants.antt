use Rattle.std.proofs.Common.{◌≡◌, ◌<◌, length}
use Rattle.sp_race.specs.Clocks.{number_at}
use Rattle.sp_race.proofs.knowledge.one_question.Given as goal

abbrev pub invariant-loop-i : goal.invariant-loop-i
invariant-loop-i l = (length l.until.items ≡ l.i) × (l.process < l.i → number_at l.until.items l.process ≡ l.end)
