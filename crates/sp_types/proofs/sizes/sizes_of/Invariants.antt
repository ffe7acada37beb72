use Rattle.std.proofs.Common.{◌≡◌, [], drop, false}
use Rattle.sp_tree.specs.Cells.{table}
use Rattle.sp_types.specs.CellCaps.{capped_by}
use Rattle.sp_types.proofs.sizes.sizes_of.Given as goal

abbrev pub invariant-loop-k : goal.invariant-loop-k
invariant-loop-k l =
    (l.walk.is_lost ≡ false → (l.fn.walk.is_lost ≡ false) × (l.walk.first ≡ l.fn.walk.first) ×
    (table capped_by l.known.items (drop l.k-index l.kinds) ≡ table capped_by [] l.kinds))
