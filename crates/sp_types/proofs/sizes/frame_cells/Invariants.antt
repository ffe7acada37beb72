use Rattle.std.proofs.Common.{◌≡◌, ◌≤◌, ◌+◌, drop}
use Rattle.sp_types.specs.TypeRules.{frame_cells}
use Rattle.sp_types.specs.CellCaps.{capped_count}
use Rattle.sp_types.proofs.sizes.frame_cells.Given as goal

abbrev pub invariant-loop-x : goal.invariant-loop-x
invariant-loop-x l =
    (l.cells ≤ 1048577) ×
    (capped_count (l.cells + frame_cells l.numbers l.sizes l.block (drop l.x-index l.variables))
    ≡ capped_count (frame_cells l.numbers l.sizes l.block l.variables))
