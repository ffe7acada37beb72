use Rattle.std.proofs.Common.{◌≤◌, ◌<◌, ℕ, length, slice_index_or}
use Rattle.sp_cell.specs.declared.spot.Spot.{Spot}
use Rattle.sp_store.proofs.slots.end_of.Given as goal

abbrev pub invariant-loop-n : goal.invariant-loop-n
invariant-loop-n l = record {
  bound : l.n ≤ length l.spots;
  above : (k : ℕ) (d : Spot) → l.n ≤ k → k < length l.spots → let s = slice_index_or l.spots k d in l.frame < s.frame;
}

abbrev pub decreases-loop-n : goal.decreases-loop-n
decreases-loop-n l = l.n
