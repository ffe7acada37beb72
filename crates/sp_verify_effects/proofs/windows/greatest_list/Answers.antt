use Rattle.std.proofs.Common.{◌∙◌, sym, length}
use Rattle.sp_verify_shapes.proofs.ReachLaws.{stands}
use Rattle.sp_verify_effects.proofs.windows.greatest_list.Goals as goal

pub loop-p-preserved : goal.loop-p-preserved
loop-p-preserved c =
    let s = c.args.g.now.shapes.now in
    let p = c.loop-p.p in
    c.greater-greatest.ensures (length s.stacks.cells) c.loop-p.invariant
    (λ k e. c.requires.known.shapes.held p k (stands s p k (sym c.reached.ensures ∙ e)))
