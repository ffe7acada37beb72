use Rattle.std.proofs.Common.{ap, ◌∙◌, take}
use Rattle.sp_cell.specs.Frame.{without_spots_of}
use Rattle.sp_cell.proofs.FrameLaws.{without_pieces}
use Rattle.sp_store.proofs.frame.add_pieces.Goals as goal

pub returns-in-Err-clause-err : goal.returns-in-Err-clause-err
returns-in-Err-clause-err c = ap (λ m. without_spots_of m c.args.frame) c.loop-i.invariant
    ∙ without_pieces c.args.slots.now c.args.frame c.args.first (take c.loop-i.i c.args.sizes.now)

pub returns-in-Err-insert-clause-err : goal.returns-in-Err-insert-clause-err
returns-in-Err-insert-clause-err c =
    ap (λ m. without_spots_of m c.args.frame) (c.in-Err-insert.ensures.err ∙ c.loop-i.invariant)
    ∙ without_pieces c.args.slots.now c.args.frame c.args.first (take c.loop-i.i c.args.sizes.now)
