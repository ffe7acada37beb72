use Rattle.std.proofs.Common.{◌≡◌, ◌≤◌, ◌<◌, ℕ, slice_index_or}
use Rattle.sp_cell.specs.declared.spot.Spot.{Spot}
use Rattle.sp_store.proofs.slots.start_of.Given as goal

abbrev pub invariant-loop-n : goal.invariant-loop-n
invariant-loop-n l = record {
  bound : l.n ≤ l.end;
  inside : (k : ℕ) (d : Spot) → l.n ≤ k → k < l.end → let s = slice_index_or l.spots k d in s.frame ≡ l.frame;
}

abbrev pub decreases-loop-n : goal.decreases-loop-n
decreases-loop-n l = l.n
