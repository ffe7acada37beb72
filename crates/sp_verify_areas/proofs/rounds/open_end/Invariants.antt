use Rattle.std.proofs.Common.{ℕ, ◌<◌}
use Rattle.sp_verify_areas.specs.Rounds.{AreFlagged, IsAt}
use Rattle.sp_verify_areas.proofs.rounds.open_end.Given as goal

-- the search has gone on from the instructions so far
abbrev pub invariant-loop-p : goal.invariant-loop-p
invariant-loop-p l = (k : ℕ) → k < l.p → IsAt l.start l.flags k → AreFlagged l.code l.flags k
