use Rattle.std.proofs.Common.{◌≡◌, ◌≤◌, ◌+◌, ℕ, List, map, drop}
use Rattle.std.specs.Prelude.{sum, slice_get}
use Rattle.sp_tree.specs.Cells.{first_or}
use Rattle.sp_types.specs.CellCaps.{capped_count}
use Rattle.sp_types.proofs.sizes.fields_cells.Given as goal

abbrev pub invariant-loop-f : goal.invariant-loop-f
invariant-loop-f l =
    (l.cells ≤ 1048577) ×
    (capped_count (l.cells + sum (map (λ (f : List ℕ × ℕ). first_or 0 (slice_get l.known f.1))
    (drop l.f-index l.fields)))
    ≡ capped_count (sum (map (λ (f : List ℕ × ℕ). first_or 0 (slice_get l.known f.1)) l.fields)))
