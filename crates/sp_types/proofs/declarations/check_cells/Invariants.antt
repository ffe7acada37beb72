use Rattle.std.proofs.Common.{◌≡◌, drop}
use Rattle.sp_types.specs.DeclarationFirsts.{cells_first}
use Rattle.sp_types.proofs.declarations.check_cells.Given as goal

abbrev pub invariant-loop-i : goal.invariant-loop-i
invariant-loop-i l = cells_first (drop l.i l.places) (drop l.i l.cells) l.first
    ≡ cells_first l.places l.cells l.fn.first
