use Rattle.sp_types.proofs.DeclarationRules.{cells_step}
use Rattle.sp_types.proofs.declarations.check_cells.Goals as goal

pub loop-i-preserved : goal.loop-i-preserved
loop-i-preserved c = cells_step c.args.places.now c.args.cells.now c.loop-i.i _ c.loop-i.first _ _ c.loop-i-test.true
    c.loop-i.invariant c.check_cells_at-first.ensures
